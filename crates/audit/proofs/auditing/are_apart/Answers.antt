use Rattle.table.specs.declared.slot.Slot.TheVariants.{Held}
use Rattle.table.proofs.Determined.{slot_is}
use Rattle.audit.proofs.Pairs.{none_beside, one_beside, one_against, all_beside}
use Rattle.audit.proofs.auditing.are_apart.Goals as goal

pub loop-slot-init : goal.loop-slot-init
loop-slot-init c = rw c.into_iter-slot-iterator.ensures.into_iter_gives (none_beside (Held c.args.number c.args.claim) c.chunks_exact-slot-items.ensures.size c.chunks_exact-slot-items.ensures.rest)

pub returns-then-not-is_apart : goal.returns-then-not-is_apart
returns-then-not-is_apart c = one_against (Held c.args.number c.args.claim) c.loop-slot.invariant _ _ c.in-Some.ensures.steps.1 (slot_is c.read_slot.ensures) c.is_apart.ensures c.if-not-is_apart.true

pub loop-slot-preserved : goal.loop-slot-preserved
loop-slot-preserved c =
    one_beside (Held c.args.number c.args.claim) c.loop-slot.invariant _ _ c.in-Some.ensures.steps.1 (slot_is c.read_slot.ensures) c.is_apart.ensures c.if-not-is_apart.false c.in-Some.ensures.steps.0

pub returns : goal.returns
returns c = all_beside (Held c.args.number c.args.claim) c.loop-slot.invariant c.in-None.ensures.steps.1.0
