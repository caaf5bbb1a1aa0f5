-- A grant leaves a table in order; so after it the bytes are well formed, or as they were. Assumes nothing.
use Rattle.std.specs.Prelude.{if◌then◌else◌, Result}
use Rattle.words.specs.declared.refusal.Refusal.{Refusal}
use mathlib.Core.Path.{◌≡◌, refl}
use mathlib.Core.Bool.{Bool, true, false, not}
use mathlib.Core.List.{List, [], ◌∷◌}
use mathlib.Core.Logic.{◌⊎◌, ◌≢◌}
use Prim.Native.Nat.{ℕ}
use borrow.Author.Tests.{eqb-false}
use lib.Dec.{eqb}
use lib.ListN.{length, length-set}
use Rattle.words.specs.Test.{any_of, place_of}
use Rattle.words.specs.Said.{done, refused, and_then}
use Rattle.words.specs.Number.{Bytes}
use Rattle.words.proofs.Left.{not_done}
use Rattle.claims.specs.Claim.{malformed}
use Rattle.claims.specs.declared.claim.Claim.{Claim}
use Rattle.table.specs.Table.{Table, limit, is_free, is_in_the_way}
use Rattle.table.specs.Layout.{Fits}
use Rattle.table.specs.Form.{well_formed}
use Rattle.table.proofs.Means.{InOrder}
use Rattle.table.proofs.Ordering.{issue_order, left_formed}
use Rattle.tokens.specs.Grant.{last_number, room_says, request_says, serve_says, grant_says, granted, Grants}

-- what a grant that is done tells of the request, the table and the numbers
pub record Passed (claim : Claim) (t : Table) : Type 0 where
  pub shaped : malformed claim (limit t) ≡ false
  pub harmless : any_of (is_in_the_way claim) t.slots ≡ false
  pub room : any_of is_free t.slots ≡ true
  pub numbers_left : t.next ≢ last_number

module _ (claim : Claim) (t : Table) (values : List ℕ) (e : grant_says claim t ≡ done values) where
  pub passed : Passed claim t
  unfolding grant_says request_says serve_says room_says and_then
  passed = go (malformed claim (limit t)) (any_of (is_in_the_way claim) t.slots) (any_of is_free t.slots) (eqb t.next last_number) refl refl refl refl e
    where
      go : (a b c d : Bool) → malformed claim (limit t) ≡ a → any_of (is_in_the_way claim) t.slots ≡ b → any_of is_free t.slots ≡ c → eqb t.next last_number ≡ d
          → and_then (if a then refused 31 [] else done []) (if b then refused 32 [] else if not c then refused 33 [] else if d then refused 34 [] else done (t.next ∷ [])) ≡ done values
          → Passed claim t
      go true b c d p q r s z = absurd (not_done 31 [] values z)
      go false true c d p q r s z = absurd (not_done 32 [] values z)
      go false false false d p q r s z = absurd (not_done 33 [] values z)
      go false false true true p q r s z = absurd (not_done 34 [] values z)
      go false false true false p q r s z = record { shaped = p; harmless = q; room = r; numbers_left = eqb-false t.next last_number s }

  pub grant_order : InOrder t → Fits claim → InOrder (granted claim t) × (length (granted claim t).slots ≡ length t.slots)
  unfolding granted last_number
  grant_order o fits = (issue_order t o (place_of is_free t.slots) claim passed.shaped fits passed.numbers_left, length-set t.slots _ _)

pub grant_formed : {bytes : List ℕ} {claim : Claim} {r : Result ℕ Refusal} {after : List ℕ} → Bytes bytes → Fits claim → Grants bytes claim r after
    → (well_formed after ≡ true) ⊎ (after ≡ bytes)
grant_formed {bytes} {claim} all fits g =
    left_formed (grant_says claim) (granted claim) bytes all (λ t o values e. grant_order claim t values e o fits) g.table_after
