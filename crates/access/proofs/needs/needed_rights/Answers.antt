use Rattle.access.proofs.Masks.{by_masks}
use Rattle.access.proofs.needs.needed_rights.Goals as goal

pub returns : goal.returns
returns c = record { answer = rw (c.right_if.ensures, c.right_if-2.ensures, c.right_if-3.ensures, c.write_right.ensures) (by_masks c.args.dir c.args.types) }
