-- Drop host frees the host's slots and answers how many they were.
use Rattle.std.specs.Prelude.{◌≡◌, Result, Bool, false, List, [], ◌∷◌, map, ℕ, eqb, length, if◌then◌else◌}
use Rattle.words.specs.Test.{those}
use Rattle.words.specs.Said.{Said, done, refused}
use Rattle.words.specs.Refusal.{number_says}
use Rattle.words.specs.declared.refusal.Refusal.{Refusal}
use Rattle.table.specs.Table.{Table, with_slots}
use Rattle.table.specs.Call.{says_of, left_of}
use Rattle.table.specs.declared.slot.Slot.{Slot}
use Rattle.table.specs.declared.slot.Slot.TheVariants.{Free, Held}

module _ (host : ℕ) where
  unfoldable pub is_hosts : Slot → Bool
  is_hosts Free = false
  is_hosts (Held number held) = eqb held.host host

  unfoldable pub freed : Slot → Slot
  freed slot = if is_hosts slot then Free else slot

  unfoldable pub drop_says : Table → Said
  drop_says t =
      if eqb host 0 then refused 31 [] else
      done (length (those is_hosts t.slots) ∷ [])

  unfoldable pub dropped : Table → Table
  dropped t = with_slots t (map freed t.slots)

-- dropping a host
pub record Drops (bytes : List ℕ) (host : ℕ) (r : Result ℕ Refusal) (after : List ℕ) : Type 0 where
  pub answer : number_says r ≡ says_of (drop_says host) bytes
  pub table_after : after ≡ left_of (drop_says host) (dropped host) bytes
