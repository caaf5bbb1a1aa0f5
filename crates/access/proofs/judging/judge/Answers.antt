use Rattle.words.proofs.Refusals.{handed_on}
use Rattle.access.proofs.Verdicts.{undecided, judged}
use Rattle.access.proofs.judging.judge.Goals as goal

pub returns-in_err-found : goal.returns-in_err-found
returns-in_err-found c = rw (handed_on _ _ c.from_residual.ensures.1) (undecided c.decide.ensures c.in_err-found.was)

pub returns : goal.returns
returns c = judged c.decide.ensures c.in_ok-found.was c.needed_rights.ensures.answer c.sufficient.ensures
