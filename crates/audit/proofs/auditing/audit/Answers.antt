use Rattle.audit.specs.Audit.{sound}
use Rattle.audit.proofs.auditing.audit.Goals as goal

pub returns-then-not-well_formed : goal.returns-then-not-well_formed
unfolding sound
returns-then-not-well_formed c = record { answer = simp (← c.well_formed-2.ensures.answer, c.if-not-well_formed.true) }

pub returns : goal.returns
unfolding sound
returns c = record { answer = simp (← c.well_formed-2.ensures.answer, c.if-not-well_formed.false, c.all_clear.ensures) }
