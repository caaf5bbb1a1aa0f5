use Rattle.store.proofs.Chains.{file_written}
use Rattle.store.proofs.storing.write_file.Goals as goal

pub returns : goal.returns
returns c = file_written c.args.slot.now c.requires c.args.file _ _ c.write_number.ensures.bytes_after c.write_number-2.ensures.bytes_after
