use mathlib.Core.Path.{◌∙◌}
use Rattle.table.proofs.Scans.{none_checked, one_checked, one_bad, all_checked}
use Rattle.table.proofs.form.are_slots.Goals as goal

pub loop-slot-init : goal.loop-slot-init
loop-slot-init c = rw c.into_iter-slot-iterator.ensures.into_iter_gives (none_checked c.args.limit c.args.next c.chunks_exact-slot-items.ensures.size (c.chunks_exact-slot-items.ensures.rest ∙ c.after_header.ensures.answer))

pub returns-then-not-is_slot : goal.returns-then-not-is_slot
returns-then-not-is_slot c = one_bad c.loop-slot.invariant _ _ c.in-Some.ensures.steps.1 c.is_slot.ensures.answer c.if-not-is_slot.true

pub loop-slot-preserved : goal.loop-slot-preserved
loop-slot-preserved c = one_checked c.loop-slot.invariant _ _ c.in-Some.ensures.steps.1 c.is_slot.ensures.answer c.if-not-is_slot.false c.in-Some.ensures.steps.0

pub returns : goal.returns
returns c = all_checked c.loop-slot.invariant c.in-None.ensures.steps.1.0
