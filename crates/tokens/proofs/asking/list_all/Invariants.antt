use Rattle.tokens.proofs.Listed.{Noted}
use Rattle.tokens.proofs.asking.list_all.Given as goal

abbrev pub invariant-loop-slot : goal.invariant-loop-slot
invariant-loop-slot l = Noted l.table l.claim l.fn.out l.out l.end l.at l.slot-iterator.size l.slot-iterator.rest.now
