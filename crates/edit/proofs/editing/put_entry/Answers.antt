use Rattle.words.proofs.Refusals.{handed_on}
use Rattle.edit.proofs.Outcomes.{put_fits, put_written, put_refused}
use Rattle.edit.proofs.editing.put_entry.Goals as goal

pub returns-in_err-plan : goal.returns-in_err-plan
returns-in_err-plan c = rw (handed_on _ _ c.from_residual.ensures.1) (put_refused c.in_err-plan.ensures)

pub write_put-requires : goal.write_put-requires
write_put-requires c = put_fits (λ i. (c.type_inv.list i).fits) c.in_ok-plan.ensures

pub returns : goal.returns
returns c = put_written (λ i. (c.type_inv.list i).fits) c.in_ok-plan.ensures c.write_put.ensures
