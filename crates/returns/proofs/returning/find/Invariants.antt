use Rattle.returns.specs.Return.{is_of}
use Rattle.returns.proofs.Sought.{Missed}
use Rattle.returns.proofs.returning.find.Given as goal

abbrev pub invariant-loop-i : goal.invariant-loop-i
invariant-loop-i l = Missed l.table (is_of l.host l.number) l.i-iterator.iter.size l.i-iterator.iter.rest.now l.i-iterator.count
