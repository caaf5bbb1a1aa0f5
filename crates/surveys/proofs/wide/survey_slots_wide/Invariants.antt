use Rattle.surveys.proofs.Surveyed.{LookedWide}
use Rattle.surveys.proofs.wide.survey_slots_wide.Given as goal

abbrev pub invariant-loop-i : goal.invariant-loop-i
invariant-loop-i l = LookedWide l.table l.claim l.limit l.next l.i-iterator.iter.size l.i-iterator.iter.rest.now l.i-iterator.count l.told
