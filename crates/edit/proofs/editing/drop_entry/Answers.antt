use Rattle.words.proofs.Refusals.{handed_on}
use Rattle.edit.proofs.Outcomes.{drop_fits, drop_written, drop_refused}
use Rattle.edit.proofs.editing.drop_entry.Goals as goal

pub returns-in_err-plan : goal.returns-in_err-plan
returns-in_err-plan c = rw (handed_on _ _ c.from_residual.ensures.1) (drop_refused c.in_err-plan.ensures)

pub write_drop-requires : goal.write_drop-requires
write_drop-requires c = drop_fits (λ i. (c.type_inv.list i).fits) c.in_ok-plan.ensures

pub returns : goal.returns
returns c = drop_written (λ i. (c.type_inv.list i).fits) c.in_ok-plan.ensures c.write_drop.ensures
