use Rattle.audit.proofs.Pairs.{Clear}
use Rattle.audit.proofs.auditing.all_clear.Given as goal

abbrev pub invariant-loop-i : goal.invariant-loop-i
invariant-loop-i l = Clear l.table l.i-iterator.iter.size l.i-iterator.iter.rest.now l.i-iterator.count
