-- Two outcomes that meet a statement are equal. Assumes nothing.
use mathlib.Core.Path.{◌≡◌, sym, ◌∙◌}
use mathlib.Core.List.{List}
use Prim.Native.Nat.{ℕ}
use denote.Ref.{Bor}
use Rattle.std.specs.Prelude.{Result}
use Rattle.words.specs.declared.refusal.Refusal.{Refusal}
use Rattle.words.proofs.Refusals.{same_number}
use Rattle.evaluate.specs.Evaluation.{Decided}
use Rattle.evaluate.specs.declared.evaluation.Found.{Found}
use Rattle.evaluate.proofs.Determined.{same_evaluation}
use Rattle.rights.specs.Deciding.{Finds, Decides}
use Rattle.rights.specs.declared.decision.Decision.{Decision}

pub decide_determined : (d : Decided) (r r' : Result Found Refusal) → Finds d r → Finds d r' → r ≡ r'
decide_determined d r r' p q = same_evaluation r r' (p.answer ∙ sym q.answer)

-- the same answer and part; a part of the list is told by its bytes and its place
abbrev pub SameDecision : Decision → Decision → Type 0
SameDecision a b = (a.answer ≡ b.answer) × ((a.part.now ≡ b.part.now) × (a.part.ref_ptr ≡ b.part.ref_ptr))

pub rights_determined : (d : Decided) (list : Bor (List ℕ)) (r r' : Decision) → Decides d list r → Decides d list r' → SameDecision r r'
rights_determined d list r r' p q =
    (same_number r.answer r'.answer p.answer q.answer, (p.bytes ∙ sym q.bytes, p.place ∙ sym q.place))
