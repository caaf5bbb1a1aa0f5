use mathlib.Core.Path.{refl, ◌∙◌}
use Rattle.table.proofs.Determined.{slot_is}
use Rattle.surveys.proofs.Surveyed.{none_looked_wide, few_conflicts, one_looked_wide, ill_looked_wide, all_looked_wide}
use Rattle.surveys.proofs.wide.survey_slots_wide.Goals as goal

pub loop-i-init : goal.loop-i-init
loop-i-init c =
    rw (c.into_iter-i-iterator.ensures.into_iter_gives, c.enumerate-i-items.ensures.source, c.enumerate-i-items.ensures.count)
    (none_looked_wide c.args.claim c.args.limit c.args.next c.requires c.chunks_exact.ensures.size (c.chunks_exact.ensures.rest ∙ c.after_header.ensures.answer) refl)

pub returns-then-not-is_slot : goal.returns-then-not-is_slot
returns-then-not-is_slot c = ill_looked_wide c.loop-i.invariant _ _ c.in-Some.ensures.steps.0.1 c.is_slot.ensures.answer c.if-not-is_slot.true

pub pass_wide-told-requires : goal.pass_wide-told-requires
pass_wide-told-requires c = few_conflicts c.loop-i.invariant.looked

pub loop-i-preserved : goal.loop-i-preserved
loop-i-preserved c =
    one_looked_wide c.loop-i.invariant _ _ c.in-Some.ensures.steps.0.1 c.is_slot.ensures.answer c.if-not-is_slot.false c.in-Some.ensures.steps.0.0 c.in-Some.ensures.steps.2
    (slot_is c.read_slot.ensures) (rw c.in-Some.ensures.steps.1 at c.pass_wide-told.ensures)

pub returns : goal.returns
returns c = all_looked_wide c.loop-i.invariant c.in-None.ensures.steps.0.1.0
