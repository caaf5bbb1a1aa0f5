-- Two outcomes that meet a statement are equal. Assumes nothing.
use mathlib.Core.Path.{◌≡◌, sym, ◌∙◌}
use mathlib.Core.Bool.{Bool}
use Prim.Native.Nat.{ℕ}
use Rattle.std.specs.Prelude.{Result}
use Rattle.words.specs.declared.refusal.Refusal.{Refusal}
use Rattle.words.proofs.Refusals.{same_plain}
use Rattle.access.specs.Needs.{Needs}
use Rattle.access.specs.Access.{Access, Judges}

pub needed_rights_determined : (types : ℕ) (dir : Bool) (r r' : ℕ) → Needs types dir r → Needs types dir r' → r ≡ r'
needed_rights_determined types dir r r' p q = p.answer ∙ sym q.answer

pub judge_determined : (access : Access) (types : ℕ) (r r' : Result (Unit {0}) Refusal) → Judges access types r → Judges access types r' → r ≡ r'
judge_determined access types r r' p q = same_plain r r' p.answer q.answer
