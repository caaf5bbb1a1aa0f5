use mathlib.Core.Path.{◌∙◌}
use Rattle.table.proofs.Determined.{slot_is}
use Rattle.tokens.proofs.Listed.{none_noted, room_left, one_noted, all_noted, all_slots}
use Rattle.tokens.proofs.asking.list_all.Goals as goal

pub loop-slot-init : goal.loop-slot-init
loop-slot-init c =
    rw c.into_iter-slot-iterator.ensures.into_iter_gives
    (none_noted c.args.table.now c.args.claim c.args.out.now c.args.end c.requires.0 c.requires.1 c.chunks_exact-slot-items.ensures.size (c.chunks_exact-slot-items.ensures.rest ∙ c.after_header.ensures.answer))

pub list_slot-at-requires : goal.list_slot-at-requires
list_slot-at-requires c = room_left c.args.table.now c.args.claim c.args.out.now c.args.end c.loop-slot.invariant c.if-at-end.false

pub loop-slot-preserved : goal.loop-slot-preserved
loop-slot-preserved c =
    one_noted c.args.table.now c.args.claim c.args.out.now c.args.end c.loop-slot.invariant _ _ c.in-Some.ensures.steps.1 c.if-at-end.false (slot_is c.read_slot.ensures)
    c.in-Some.ensures.steps.0 c.list_slot-at.ensures

pub returns-in-None : goal.returns-in-None
returns-in-None c = all_slots c.args.table.now c.args.claim c.args.out.now c.args.end c.loop-slot.invariant c.in-None.ensures.steps.1.0

pub returns-then-at-end : goal.returns-then-at-end
returns-then-at-end c = all_noted c.args.table.now c.args.claim c.args.out.now c.args.end c.loop-slot.invariant c.if-at-end.true
