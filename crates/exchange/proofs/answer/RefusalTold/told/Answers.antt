use mathlib.Core.Path.{refl}
use Rattle.words.specs.Refusal.{refusal_says}
use Rattle.words.proofs.Refusals.{first_value}
use Rattle.exchange.specs.Answer.{answer_of, answer_for}
use Rattle.exchange.proofs.answer.RefusalTold.told.Goals as goal

pub returns : goal.returns
unfolding answer_of answer_for refusal_says
returns c = record { answer = rw (c.number.ensures.answer, c.unwrap_or.ensures, c.value.ensures.answer, first_value) refl }
