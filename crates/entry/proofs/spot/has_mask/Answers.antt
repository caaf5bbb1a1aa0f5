use Rattle.entry.proofs.Verdicts.{mask_told}
use Rattle.entry.proofs.spot.has_mask.Goals as goal

pub returns : goal.returns
returns c = mask_told c.args.list.now (λ i. (c.type_inv.list i).fits) c.requires c.find.ensures
