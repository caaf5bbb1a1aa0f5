use mathlib.Core.Path.{◌∙◌}
use Rattle.words.specs.Writing.{digits}
use Rattle.words.proofs.Written.{copied}
use Rattle.writes.proofs.Stored.{two_digits}
use Rattle.writes.proofs.number.store_two.Goals as goal

pub returns : goal.returns
unfolding digits
returns c = copied c.args.at _ c.args.bytes.now _ (c.copy_from_slice.ensures.after ∙ c.to_be_bytes.ensures ∙ two_digits c.args.n)
