use Rattle.table.proofs.Zeroes.{header_zeroes}
use Rattle.table.proofs.form.is_blank_header.Goals as goal

pub returns : goal.returns
returns c = rw (c.number_at.ensures.answer, c.number_at-2.ensures.answer, c.number_at-3.ensures.answer, c.number_at-4.ensures.answer) (header_zeroes c.args.table.now c.requires)
