use mathlib.Core.Path.{refl, ◌∙◌}
use Rattle.table.proofs.Determined.{slot_is}
use Rattle.audit.proofs.Pairs.{none_clear, before_ends, one_clear, one_unclear, all_clear}
use Rattle.audit.proofs.auditing.all_clear.Goals as goal

pub loop-i-init : goal.loop-i-init
loop-i-init c =
    rw (c.into_iter-i-iterator.ensures.into_iter_gives, c.enumerate-i-items.ensures.source, c.enumerate-i-items.ensures.count)
    (none_clear c.args.table.now c.chunks_exact.ensures.size (c.chunks_exact.ensures.rest ∙ c.after_header.ensures.answer) refl)

pub slice_bounds-is_clear-end : goal.slice_bounds-is_clear-end
slice_bounds-is_clear-end c = before_ends c.args.table.now c.loop-i.invariant _ _ c.in-Some.ensures.steps.0.1 c.in-Some.ensures.steps.1

pub returns-then-not-is_clear : goal.returns-then-not-is_clear
returns-then-not-is_clear c =
    one_unclear c.args.table.now c.loop-i.invariant _ _ c.in-Some.ensures.steps.0.1 c.in-Some.ensures.steps.1 (slot_is c.read_slot.ensures) c.is_clear.ensures c.if-not-is_clear.true

pub loop-i-preserved : goal.loop-i-preserved
loop-i-preserved c =
    one_clear c.args.table.now c.loop-i.invariant _ _ c.in-Some.ensures.steps.0.1 c.in-Some.ensures.steps.1 (slot_is c.read_slot.ensures) c.is_clear.ensures c.if-not-is_clear.false
    c.in-Some.ensures.steps.0.0 c.in-Some.ensures.steps.2

pub returns : goal.returns
returns c = all_clear c.args.table.now c.loop-i.invariant c.in-None.ensures.steps.0.1.0
