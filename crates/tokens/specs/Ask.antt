-- Ask changes no table. It writes, in slot order, one entry per token that conflicts; its answer is their count.
use Rattle.std.specs.Prelude.{◌≡◌, Result, List, [], ◌∷◌, ◌++◌, map, ℕ, ltb, length, if◌then◌else◌}
use Rattle.words.specs.Test.{those}
use Rattle.words.specs.Said.{Said, done, refused, and_then, left}
use Rattle.words.specs.Refusal.{number_says}
use Rattle.words.specs.declared.refusal.Refusal.{Refusal}
use Rattle.words.specs.Writing.{digits}
use Rattle.claims.specs.Rule.{conflict}
use Rattle.claims.specs.declared.claim.Claim.{Claim}
use Rattle.table.specs.Table.{Table, is_in_the_way}
use Rattle.table.specs.Layout.{joined, table_of}
use Rattle.table.specs.Call.{says_of}
use Rattle.table.specs.declared.slot.Slot.{Slot}
use Rattle.table.specs.declared.slot.Slot.TheVariants.{Free, Held}
use Rattle.tokens.specs.Grant.{request_says}

-- kind 3, number 8, host 2, conflicting types of that token 2
unfoldable pub entry_bytes : ℕ → ℕ → ℕ → List ℕ
entry_bytes number host types = (3 ∷ []) ++ digits 8 number ++ digits 2 host ++ digits 2 types

module _ (claim : Claim) where
  unfoldable pub entry_for : Slot → List ℕ
  entry_for Free = []
  entry_for (Held number held) = entry_bytes number held.host (conflict held claim)

  -- the tokens that conflict, in slot order, and their entries
  unfoldable pub in_the_way : Table → List Slot
  in_the_way t = those (is_in_the_way claim) t.slots

  unfoldable pub list_for : Table → List ℕ
  list_for t = joined (map entry_for (in_the_way t))

  -- ask's own: 35, with the true count
  unfoldable pub list_says : List ℕ → Table → Said
  list_says out t =
      if ltb (length out) (length (list_for t)) then refused 35 (length (in_the_way t) ∷ []) else
      done (length (in_the_way t) ∷ [])

  unfoldable pub ask_says : List ℕ → Table → Said
  ask_says out t = and_then (request_says claim t) (list_says out t)

-- asking what is in the way
pub record Asks (bytes : List ℕ) (claim : Claim) (out : List ℕ) (r : Result ℕ Refusal) (after : List ℕ) : Type 0 where
  pub answer : number_says r ≡ says_of (ask_says claim out) bytes
  pub out_after : after ≡ left (says_of (ask_says claim out) bytes) (list_for claim (table_of bytes)) out
