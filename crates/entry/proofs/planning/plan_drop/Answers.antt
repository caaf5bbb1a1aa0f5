use native.Mathlib.Omega.{arith}
use Rattle.words.proofs.Refusals.{handed_on}
use Rattle.entry.specs.Plan.{plan_at}
use Rattle.entry.proofs.Lengths.{is_above}
use Rattle.entry.proofs.Located.{locate, spot_inside}
use Rattle.entry.proofs.Outcomes.{passing, entered, drop_asked, drop_nothing, drop_refused, drop_fine}
use Rattle.entry.proofs.planning.plan_drop.Goals as goal

pub returns-in_err-check : goal.returns-in_err-check
returns-in_err-check c = rw (handed_on _ _ c.from_residual.ensures.1) (drop_asked c.in_err-check.ensures)

pub record_of-requires : goal.record_of-requires
record_of-requires c = entered c.in_ok-check.ensures

pub find-spot-requires : goal.find-spot-requires
find-spot-requires c = (passing c.in_ok-check.ensures, is_above c.record_of.result.kind c.record_of.ensures.is_entry_kind)

pub returns-then-spot-eq0 : goal.returns-then-spot-eq0
returns-then-spot-eq0 c = drop_nothing (locate (λ i. (c.type_inv.list i).fits) (passing c.in_ok-check.ensures) c.record_of.ensures c.find-spot.ensures) c.if-spot-eq0.true

pub overflow_sub-total : goal.overflow_sub-total
overflow_sub-total c = let h = spot_inside (locate (λ i. (c.type_inv.list i).fits) (passing c.in_ok-check.ensures) c.record_of.ensures c.find-spot.ensures) in omega arith

pub returns-in_err-judge_drop : goal.returns-in_err-judge_drop
returns-in_err-judge_drop c =
    let l = locate (λ i. (c.type_inv.list i).fits) (passing c.in_ok-check.ensures) c.record_of.ensures c.find-spot.ensures in
    let h = spot_inside l in
    rw (handed_on _ _ c.from_residual-in_err-judge_drop.ensures.1) (drop_refused l _ (omega arith) (omega arith) c.in_err-judge_drop.ensures)

pub returns : goal.returns
unfolding plan_at
returns c =
    let l = locate (λ i. (c.type_inv.list i).fits) (passing c.in_ok-check.ensures) c.record_of.ensures c.find-spot.ensures in
    let h = spot_inside l in
    drop_fine l _ (omega arith) (omega arith) c.in_ok-judge_drop.ensures
