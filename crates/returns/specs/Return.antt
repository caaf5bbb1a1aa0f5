-- Return takes host, number and types; the lowest slot with that number and host loses them; with none left it is free.
use Rattle.std.specs.Prelude.{◌≡◌, Result, Bool, false, not, ◌&&◌, List, [], ℕ, eqb, get_or, if◌then◌else◌}
use Rattle.words.specs.Test.{any_of, place_of}
use Rattle.words.specs.Said.{Said, done, refused}
use Rattle.words.specs.Refusal.{plain_says}
use Rattle.words.specs.declared.refusal.Refusal.{Refusal}
use Rattle.claims.specs.Types.{without, lacks}
use Rattle.claims.specs.Claim.{with_types, unfit}
use Rattle.claims.specs.declared.claim.Claim.{Claim}
use Rattle.table.specs.Table.{Table, limit, put}
use Rattle.table.specs.Call.{says_of, left_of}
use Rattle.table.specs.declared.slot.Slot.{Slot}
use Rattle.table.specs.declared.slot.Slot.TheVariants.{Free, Held}

-- the slot's token has this number and host
unfoldable pub is_of : ℕ → ℕ → Slot → Bool
is_of host number Free = false
is_of host number (Held given held) = eqb given number && eqb held.host host

unfoldable pub types_in : Slot → ℕ
types_in Free = 0
types_in (Held number held) = held.types

-- what is left of a token without some types
unfoldable pub keeps : ℕ → ℕ → Claim → Slot
keeps types number held =
    let kept = without held.types types in
    if eqb kept 0 then Free else Held number (with_types held kept)

unfoldable pub loses : ℕ → Slot → Slot
loses types Free = Free
loses types (Held number held) = keeps types number held

module _ (host number types : ℕ) where
  unfoldable pub place_in : Table → ℕ
  place_in t = place_of (is_of host number) t.slots

  unfoldable pub token_in : Table → Slot
  token_in t = get_or t.slots (place_in t) Free

  unfoldable pub return_says : Table → Said
  return_says t =
      if unfit host types (limit t) then refused 31 [] else
      if not (any_of (is_of host number) t.slots) then refused 36 [] else
      if lacks (types_in (token_in t)) types then refused 37 [] else
      done []

  unfoldable pub returned : Table → Table
  returned t = put t (place_in t) (loses types (token_in t))

-- returning types of a token
pub record Returns (bytes : List ℕ) (host number types : ℕ) (r : Result (Unit {0}) Refusal) (after : List ℕ) : Type 0 where
  pub answer : plain_says r ≡ says_of (return_says host number types) bytes
  pub table_after : after ≡ left_of (return_says host number types) (returned host number types) bytes
