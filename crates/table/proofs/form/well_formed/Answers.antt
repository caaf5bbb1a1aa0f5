use Rattle.table.specs.Table.{limit}
use Rattle.table.specs.Layout.{next_in, table_of}
use Rattle.table.specs.Form.{well_formed}
use Rattle.table.proofs.form.well_formed.Goals as goal

pub returns-then-not-opens : goal.returns-then-not-opens
unfolding well_formed limit next_in table_of
returns-then-not-opens c = record { answer = simp (← c.opens.ensures.answer, c.if-not-opens.true) }

pub returns : goal.returns
unfolding well_formed limit next_in table_of
returns c = record { answer = simp (← c.opens.ensures.answer, c.if-not-opens.false, c.are_slots.ensures, c.number_at.ensures.answer) }
