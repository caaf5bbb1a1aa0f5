-- What is told to C is what was said. Assumes nothing.
use Rattle.std.specs.Prelude.{Result, Ok, Err}
use mathlib.Core.Path.{◌≡◌, refl, ◌∙◌, ap}
use mathlib.Core.List.{List, [], ◌∷◌}
use Prim.Native.Nat.{ℕ}
use Rattle.words.specs.Said.{Said, done}
use Rattle.words.specs.Refusal.{says_by}
use Rattle.words.specs.declared.refusal.Refusal.{Refusal}
use Rattle.evaluate.specs.Evaluation.{bare, evaluated_as}
use Rattle.evaluate.specs.declared.evaluation.Found.{Found}
use Rattle.exchange.specs.Meaning.{Means}
use Rattle.exchange.specs.Answer.{answer_for, answer_of, answered}
use Rattle.exchange.specs.declared.answer.Answer.{Answer}

module _ {A : Type 0} (values : A → List ℕ) where
  answered_says : (result : Result A Refusal) → answered (λ a. answer_of (done (values a))) result ≡ answer_of (says_by values result)
  unfolding answered says_by
  answered_says (Ok a) = refl
  answered_says (Err refusal) = refl

  pub told : (result : Result A Refusal) {r : Answer} {wanted : Said} → Means (answered (λ a. answer_of (done (values a))) result) r → says_by values result ≡ wanted → r ≡ answer_of wanted
  told result m e = m.answer ∙ answered_says result ∙ ap answer_of e

found_says : (result : Result Found Refusal)
    → answered (λ f. answer_for (done (f.rights ∷ [])) f.start f.size) result
    ≡ answer_for (evaluated_as result).says (evaluated_as result).start (evaluated_as result).size
unfolding answered evaluated_as bare answer_of
found_says (Ok found) = refl
found_says (Err refusal) = refl

-- with the deciding record
pub told_found : (result : Result Found Refusal) {r : Answer} → Means (answered (λ f. answer_for (done (f.rights ∷ [])) f.start f.size) result) r
    → r ≡ answer_for (evaluated_as result).says (evaluated_as result).start (evaluated_as result).size
told_found result m = m.answer ∙ found_says result
