-- What a call says, as C has it: a field that it does not use is 0.
use Rattle.std.specs.Prelude.{Bool, [], ◌∷◌, ℕ, get_or, if◌then◌else◌, Result, Ok, Err}
use Rattle.words.specs.Said.{Said, done, refused}
use Rattle.words.specs.Refusal.{refusal_says}
use Rattle.words.specs.declared.refusal.Refusal.{Refusal}
use Rattle.exchange.specs.declared.answer.Answer.{Answer}

-- with the deciding record's place and length
unfoldable pub answer_for : Said → ℕ → ℕ → Answer
answer_for (done values) start size = record {
  refused = 0;
  value = get_or values 0 0;
  detail = 0;
  start = start;
  length = size;
  first = get_or values 1 0;
  last = get_or values 2 0;
}
answer_for (refused number values) start size = record {
  refused = number;
  value = 0;
  detail = get_or values 0 0;
  start = start;
  length = size;
  first = 0;
  last = 0;
}

unfoldable pub answer_of : Said → Answer
answer_of says = answer_for says 0 0

-- yes is 1, and no is 0
unfoldable pub truth_says : Bool → Said
truth_says truth = done ((if truth then 1 else 0) ∷ [])

-- of a call that can be refused
module _ {A : Type 0} where
  unfoldable pub answered : (A → Answer) → Result A Refusal → Answer
  answered meant (Ok value) = meant value
  answered meant (Err refusal) = answer_of (refusal_says refusal)
