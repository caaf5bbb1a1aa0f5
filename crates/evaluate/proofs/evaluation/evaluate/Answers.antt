use mathlib.Core.Path.{◌∙◌}
use Rattle.evaluate.specs.Evaluation.{evaluation, evaluated_as}
use Rattle.evaluate.proofs.Many.{too_many, not_too_many}
use Rattle.words.proofs.Refusals.{handed_on}
use Rattle.evaluate.proofs.Passing.{dir_unasked, evaluated_refused, evaluated_fine}
use Rattle.evaluate.proofs.evaluation.evaluate.Goals as goal

pub returns-then-groups-gt-MOST_GROUPS : goal.returns-then-groups-gt-MOST_GROUPS
unfolding evaluation evaluated_as
returns-then-groups-gt-MOST_GROUPS c = record { answer = too_many _ _ c.if-groups-gt-MOST_GROUPS.true }

pub returns-in_err-tally : goal.returns-in_err-tally
unfolding evaluation evaluated_as
returns-in_err-tally c = rw (handed_on _ _ c.from_residual.ensures.1) (record { answer = evaluated_refused c.pass.ensures c.in_err-tally.was ∙ dir_unasked _ _ _ _ _ ∙ not_too_many _ _ c.if-groups-gt-MOST_GROUPS.false })

pub returns : goal.returns
unfolding evaluation evaluated_as
returns c = record { answer = evaluated_fine c.pass.ensures c.in_ok-tally.was c.allowed.ensures.0 c.allowed.ensures.1 ∙ dir_unasked _ _ _ _ _ ∙ not_too_many _ _ c.if-groups-gt-MOST_GROUPS.false }
