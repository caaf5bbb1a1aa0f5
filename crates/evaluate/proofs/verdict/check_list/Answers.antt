use Rattle.words.proofs.Refusals.{handed_on}
use Rattle.evaluate.proofs.Passing.{checked_refused, checked_fine}
use Rattle.evaluate.proofs.verdict.check_list.Goals as goal

pub returns-in_err-pass : goal.returns-in_err-pass
returns-in_err-pass c = rw (handed_on _ _ c.from_residual.ensures.1) (checked_refused c.pass.ensures c.in_err-pass.was)

pub returns : goal.returns
returns c = checked_fine c.pass.ensures c.in_ok-pass.was
