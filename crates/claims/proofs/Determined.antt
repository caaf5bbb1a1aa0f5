-- Two outcomes that meet a statement are equal. Assumes nothing.
use mathlib.Core.Path.{◌≡◌, sym, ◌∙◌}
use mathlib.Core.Bool.{Bool}
use Prim.Native.Nat.{ℕ}
use Rattle.claims.specs.Claim.{TellsUnfit, TellsMalformed}
use Rattle.claims.specs.Rule.{Conflicts, TellsCover}
use Rattle.claims.specs.declared.claim.Claim.{Claim}

pub is_unfit_determined : (host types limit : ℕ) (r r' : Bool) → TellsUnfit host types limit r → TellsUnfit host types limit r' → r ≡ r'
is_unfit_determined host types limit r r' p q = p.answer ∙ sym q.answer

pub is_malformed_determined : (claim : Claim) (limit : ℕ) (r r' : Bool) → TellsMalformed claim limit r → TellsMalformed claim limit r' → r ≡ r'
is_malformed_determined claim limit r r' p q = p.answer ∙ sym q.answer

pub conflict_determined : (a b : Claim) (r r' : ℕ) → Conflicts a b r → Conflicts a b r' → r ≡ r'
conflict_determined a b r r' p q = p.answer ∙ sym q.answer

pub covers_file_determined : (types : ℕ) (r r' : Bool) → TellsCover types r → TellsCover types r' → r ≡ r'
covers_file_determined types r r' p q = p.answer ∙ sym q.answer
