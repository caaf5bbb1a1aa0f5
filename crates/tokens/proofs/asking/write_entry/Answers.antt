use lib.ListN.{length-set}
use Rattle.words.proofs.Written.{written_length}
use Rattle.tokens.proofs.Listed.{entry_written}
use Rattle.tokens.proofs.asking.write_entry.Goals as goal

pub shape_of-out : goal.shape_of-out
shape_of-out c = rw (c.write_number-3.ensures.bytes_after, written_length, c.write_number-2.ensures.bytes_after, written_length, c.write_number.ensures.bytes_after, written_length) (length-set c.args.out.now c.args.at 3)

pub returns : goal.returns
returns c = entry_written c.args.out.now c.args.at c.args.number c.args.host c.args.types _ _ _ c.requires c.write_number.ensures.bytes_after c.write_number-2.ensures.bytes_after c.write_number-3.ensures.bytes_after
