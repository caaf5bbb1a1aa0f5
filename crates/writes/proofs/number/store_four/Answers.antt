use mathlib.Core.Path.{◌∙◌}
use Rattle.words.specs.Writing.{digits}
use Rattle.words.proofs.Written.{copied}
use Rattle.writes.proofs.Stored.{four_digits}
use Rattle.writes.proofs.number.store_four.Goals as goal

pub returns : goal.returns
unfolding digits
returns c = copied c.args.at _ c.args.bytes.now _ (c.copy_from_slice.ensures.after ∙ c.to_be_bytes.ensures ∙ four_digits c.args.n)
