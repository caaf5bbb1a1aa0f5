use Rattle.store.proofs.Chains.{rest_written}
use Rattle.store.proofs.storing.write_rest.Goals as goal

pub returns : goal.returns
returns c = rest_written c.args.slot.now c.requires c.args.first c.args.last c.args.number _ _ _ c.write_number.ensures.bytes_after c.write_number-2.ensures.bytes_after c.write_number-3.ensures.bytes_after
