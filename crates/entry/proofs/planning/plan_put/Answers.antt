use native.Mathlib.Omega.{arith}
use Rattle.words.proofs.Refusals.{handed_on}
use Rattle.entry.specs.Plan.{plan_at}
use Rattle.entry.proofs.Lengths.{is_above}
use Rattle.entry.proofs.Located.{locate, spot_inside}
use Rattle.entry.proofs.Outcomes.{passing, entered, put_asked, put_refused, put_fine}
use Rattle.entry.proofs.planning.plan_put.Goals as goal

pub returns-in_err-check : goal.returns-in_err-check
returns-in_err-check c = rw (handed_on _ _ c.from_residual.ensures.1) (put_asked c.in_err-check.ensures)

pub record_of-r-requires : goal.record_of-r-requires
record_of-r-requires c = entered c.in_ok-check.ensures

pub find-spot-requires : goal.find-spot-requires
find-spot-requires c = (passing c.in_ok-check.ensures, is_above c.record_of-r.result.kind c.record_of-r.ensures.is_entry_kind)

pub overflow_sub-total : goal.overflow_sub-total
overflow_sub-total c = let h = spot_inside (locate (λ i. (c.type_inv.list i).fits) (passing c.in_ok-check.ensures) c.record_of-r.ensures c.find-spot.ensures) in omega arith

pub judge_put-requires : goal.judge_put-requires
judge_put-requires c = passing c.in_ok-check.ensures

pub returns-in_err-judge_put : goal.returns-in_err-judge_put
returns-in_err-judge_put c =
    let l = locate (λ i. (c.type_inv.list i).fits) (passing c.in_ok-check.ensures) c.record_of-r.ensures c.find-spot.ensures in
    let h = spot_inside l in
    rw (handed_on _ _ c.from_residual-in_err-judge_put.ensures.1) (put_refused l _ (omega arith) c.in_err-judge_put.ensures)

pub returns : goal.returns
unfolding plan_at
returns c =
    let l = locate (λ i. (c.type_inv.list i).fits) (passing c.in_ok-check.ensures) c.record_of-r.ensures c.find-spot.ensures in
    let h = spot_inside l in
    put_fine l _ (omega arith) c.in_ok-judge_put.ensures
