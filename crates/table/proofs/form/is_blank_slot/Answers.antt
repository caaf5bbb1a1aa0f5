use Rattle.table.proofs.Zeroes.{slot_zeroes}
use Rattle.table.proofs.form.is_blank_slot.Goals as goal

pub returns : goal.returns
returns c = rw (c.number_at.ensures.answer, c.number_at-2.ensures.answer, c.number_at-3.ensures.answer, c.number_at-4.ensures.answer, c.number_at-5.ensures.answer) (slot_zeroes c.args.slot.now c.requires)
