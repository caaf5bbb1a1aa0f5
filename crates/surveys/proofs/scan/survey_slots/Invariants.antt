use Rattle.surveys.proofs.Surveyed.{Looked}
use Rattle.surveys.proofs.scan.survey_slots.Given as goal

abbrev pub invariant-loop-i : goal.invariant-loop-i
invariant-loop-i l = Looked l.table l.claim l.limit l.next l.i-iterator.iter.size l.i-iterator.iter.rest.now l.i-iterator.count l.seen
