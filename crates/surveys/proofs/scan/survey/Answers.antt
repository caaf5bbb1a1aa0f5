use mathlib.Core.Path.{sym, ◌∙◌}
use Rattle.table.specs.Table.{limit}
use Rattle.table.specs.Layout.{next_in, table_of}
use Rattle.table.proofs.Cuts.{sized}
use Rattle.table.proofs.Forms.{opening_length}
use Rattle.surveys.proofs.Surveyed.{no_survey, whole_survey}
use Rattle.surveys.proofs.scan.survey.Goals as goal

pub returns-then-not-opens : goal.returns-then-not-opens
returns-then-not-opens c = no_survey c.args.table.now c.args.claim c.opens.ensures.answer c.if-not-opens.true

pub survey_slots-requires : goal.survey_slots-requires
survey_slots-requires c = (sized c.args.table.now (opening_length c.args.table.now (sym c.opens.ensures.answer ∙ c.if-not-opens.false))).few

pub returns : goal.returns
unfolding limit next_in table_of
returns c = rw c.ok_or.ensures.value (whole_survey c.args.table.now c.args.claim c.opens.ensures.answer c.if-not-opens.false c.survey_slots.result (rw c.number_at.ensures.answer at c.survey_slots.ensures))
