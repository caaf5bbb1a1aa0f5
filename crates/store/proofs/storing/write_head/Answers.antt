use lib.ListN.{length-set}
use Rattle.words.proofs.Written.{written_length}
use Rattle.store.proofs.Chains.{head_written}
use Rattle.store.proofs.storing.write_head.Goals as goal

pub shape_of-slot : goal.shape_of-slot
shape_of-slot c = rw (c.write_number-2.ensures.bytes_after, written_length, c.write_number.ensures.bytes_after, written_length) (length-set c.args.slot.now 0 c.args.kind)

pub returns : goal.returns
returns c = head_written c.args.slot.now c.requires c.args.kind c.args.types c.args.host _ _ c.write_number.ensures.bytes_after c.write_number-2.ensures.bytes_after
