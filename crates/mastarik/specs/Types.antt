-- What types need, as C has it.
use Rattle.std.specs.Prelude.{◌≡◌, not, [], ◌∷◌, ℕ, eqb}
use Rattle.words.specs.Said.{done}
use Rattle.access.specs.Needs.{needed}
use Rattle.exchange.specs.Answer.{answer_of}
use Rattle.exchange.specs.declared.answer.Answer.{Answer}

-- telling what some types need, on a directory where dir is not 0
pub record TellsNeeds (types dir : ℕ) (r : Answer) : Type 0 where
  pub answer : r ≡ answer_of (done (needed (not (eqb dir 0)) types ∷ []))
