-- Two outcomes that meet a statement are equal. Assumes nothing.
use mathlib.Core.Path.{◌≡◌, refl, sym, ◌∙◌, ap}
use mathlib.Core.List.{List, [], ◌∷◌}
use Prim.Native.Nat.{ℕ}
use Rattle.std.specs.Prelude.{Option, None, Some, Result, Ok, Err}
use Rattle.words.specs.Refusal.{says_by, plain_says}
use Rattle.words.specs.declared.refusal.Refusal.{Refusal}
use Rattle.words.proofs.Refusals.{same_plain}
use Rattle.claims.specs.declared.claim.Claim.{Claim}
use Rattle.parts.specs.Part.{unless, Refuses, claims_in, Stays}
use Rattle.parts.specs.declared.losing.Kept.{Kept}
use Rattle.parts.specs.declared.losing.Kept.TheVariants.{Nothing, One, Two}

-- no refusal is done
unfoldable outcome : Option Refusal → Result (Unit {0}) Refusal
outcome None = Ok tt
outcome (Some refusal) = Err refusal

unfoldable back : Result (Unit {0}) Refusal → Option Refusal
back (Ok done) = None
back (Err refusal) = Some refusal

says_outcome : (r : Option Refusal) → plain_says (outcome r) ≡ unless r
unfolding unless says_by outcome
says_outcome None = refl
says_outcome (Some refusal) = refl

back_outcome : (r : Option Refusal) → back (outcome r) ≡ r
unfolding back outcome
back_outcome None = refl
back_outcome (Some refusal) = refl

again : List Claim → Kept
again [] = Nothing
again (claim ∷ []) = One claim
again (left ∷ right ∷ more) = Two left right

again_in : (r : Kept) → again (claims_in r) ≡ r
unfolding claims_in again
again_in Nothing = refl
again_in (One claim) = refl
again_in (Two left right) = refl

module _ (types first last : ℕ) (held : Claim) where
  pub loss_refusal_determined : (r r' : Option Refusal) → Refuses types first last held r → Refuses types first last held r' → r ≡ r'
  loss_refusal_determined r r' p q =
      sym (back_outcome r) ∙ ap back (same_plain (outcome r) (outcome r') (says_outcome r ∙ p.answer) (says_outcome r' ∙ q.answer)) ∙ back_outcome r'

  pub stays_determined : (r r' : Kept) → Stays types first last held r → Stays types first last held r' → r ≡ r'
  stays_determined r r' p q = sym (again_in r) ∙ ap again (p.answer ∙ sym q.answer) ∙ again_in r'
