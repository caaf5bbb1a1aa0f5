-- A token table: its slots, and the number that the next token gets.
use Rattle.std.specs.Prelude.{Bool, true, false, not, List, ℕ, ◌+◌, eqb, set}
use Rattle.claims.specs.Rule.{conflict}
use Rattle.claims.specs.declared.claim.Claim.{Claim}
use Rattle.table.specs.declared.slot.Slot.{Slot}
use Rattle.table.specs.declared.slot.Slot.TheVariants.{Free, Held}

pub record Table : Type 0 where
  pub slots : List Slot
  pub next : ℕ

-- the highest set of types that it takes
unfoldable pub limit : Table → ℕ
limit t = 255

-- the table with other slots; with another slot at a place; with the next number given to a claim there
abbrev pub with_slots : Table → List Slot → Table
with_slots t slots = record { slots = slots; next = t.next }

abbrev pub put : Table → ℕ → Slot → Table
put t i slot = with_slots t (set t.slots i slot)

abbrev pub issue : Table → ℕ → Claim → Table
issue t i claim = record { slots = set t.slots i (Held t.next claim); next = t.next + 1 }

unfoldable pub is_free : Slot → Bool
is_free Free = true
is_free (Held number held) = false

-- the slot's token conflicts with a claim
unfoldable pub is_in_the_way : Claim → Slot → Bool
is_in_the_way claim Free = false
is_in_the_way claim (Held number held) = not (eqb (conflict held claim) 0)
