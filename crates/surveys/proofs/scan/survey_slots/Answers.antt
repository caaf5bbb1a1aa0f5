use mathlib.Core.Path.{refl, ◌∙◌}
use Rattle.table.proofs.Determined.{slot_is}
use Rattle.surveys.proofs.Surveyed.{none_looked, few_conflicts, one_looked, ill_looked, all_looked}
use Rattle.surveys.proofs.scan.survey_slots.Goals as goal

pub loop-i-init : goal.loop-i-init
loop-i-init c =
    rw (c.into_iter-i-iterator.ensures.into_iter_gives, c.enumerate-i-items.ensures.source, c.enumerate-i-items.ensures.count)
    (none_looked c.args.claim c.args.limit c.args.next c.requires c.chunks_exact.ensures.size (c.chunks_exact.ensures.rest ∙ c.after_header.ensures.answer) refl)

pub returns-then-not-is_slot : goal.returns-then-not-is_slot
returns-then-not-is_slot c = ill_looked c.loop-i.invariant _ _ c.in-Some.ensures.steps.0.1 c.is_slot.ensures.answer c.if-not-is_slot.true

pub pass-seen-requires : goal.pass-seen-requires
pass-seen-requires c = few_conflicts c.loop-i.invariant

pub loop-i-preserved : goal.loop-i-preserved
loop-i-preserved c =
    one_looked c.loop-i.invariant _ _ c.in-Some.ensures.steps.0.1 c.is_slot.ensures.answer c.if-not-is_slot.false c.in-Some.ensures.steps.0.0 c.in-Some.ensures.steps.2
    (slot_is c.read_slot.ensures) (rw c.in-Some.ensures.steps.1 at c.pass-seen.ensures)

pub returns : goal.returns
returns c = all_looked c.loop-i.invariant c.in-None.ensures.steps.0.1.0
