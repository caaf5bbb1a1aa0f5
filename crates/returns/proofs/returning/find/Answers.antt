use mathlib.Core.Path.{refl, ◌∙◌}
use Rattle.table.proofs.Determined.{slot_is}
use Rattle.returns.specs.Return.{is_of}
use Rattle.returns.proofs.Sought.{none_missed, one_missed, found_here, found_nowhere}
use Rattle.returns.proofs.returning.find.Goals as goal

pub loop-i-init : goal.loop-i-init
loop-i-init c =
    rw (c.into_iter-i-iterator.ensures.into_iter_gives, c.enumerate-i-items.ensures.source, c.enumerate-i-items.ensures.count)
    (none_missed (is_of c.args.host c.args.number) c.chunks_exact.ensures.size (c.chunks_exact.ensures.rest ∙ c.after_header.ensures.answer) refl)

pub returns-then-is_of : goal.returns-then-is_of
returns-then-is_of c = found_here (is_of c.args.host c.args.number) c.loop-i.invariant _ _ c.in-Some.ensures.steps.0.1 c.is_of.ensures (slot_is c.read_slot.ensures) c.if-is_of.true c.in-Some.ensures.steps.1

pub loop-i-preserved : goal.loop-i-preserved
loop-i-preserved c =
    one_missed (is_of c.args.host c.args.number) c.loop-i.invariant _ _ c.in-Some.ensures.steps.0.1 c.is_of.ensures (slot_is c.read_slot.ensures) c.if-is_of.false
    c.in-Some.ensures.steps.0.0 c.in-Some.ensures.steps.2

pub returns : goal.returns
returns c = found_nowhere (is_of c.args.host c.args.number) c.loop-i.invariant c.in-None.ensures.steps.0.1.0
