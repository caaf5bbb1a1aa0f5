use Rattle.store.proofs.Chains.{fields_written}
use Rattle.store.proofs.storing.write_fields.Goals as goal

pub returns : goal.returns
returns c = fields_written c.args.slot.now c.requires c.args.kind c.args.number c.args.claim _ _ _ c.write_head.ensures c.write_file.ensures c.write_rest.ensures
