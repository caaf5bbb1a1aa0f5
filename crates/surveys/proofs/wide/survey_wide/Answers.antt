use mathlib.Core.Path.{sym, ◌∙◌}
use Rattle.table.specs.Table.{limit}
use Rattle.table.specs.Layout.{next_in, table_of}
use Rattle.table.proofs.Cuts.{sized}
use Rattle.table.proofs.Forms.{opening_length}
use Rattle.surveys.proofs.Surveyed.{no_survey_wide, whole_survey_wide}
use Rattle.surveys.proofs.wide.survey_wide.Goals as goal

pub returns-then-not-opens : goal.returns-then-not-opens
returns-then-not-opens c = no_survey_wide c.args.table.now c.args.claim c.opens.ensures.answer c.if-not-opens.true

pub survey_slots_wide-requires : goal.survey_slots_wide-requires
survey_slots_wide-requires c = (sized c.args.table.now (opening_length c.args.table.now (sym c.opens.ensures.answer ∙ c.if-not-opens.false))).few

pub returns : goal.returns
unfolding limit next_in table_of
returns c = rw c.ok_or.ensures.value (whole_survey_wide c.args.table.now c.args.claim c.opens.ensures.answer c.if-not-opens.false c.survey_slots_wide.result (rw c.number_at.ensures.answer at c.survey_slots_wide.ensures))
