use Rattle.table.specs.declared.slot.Slot.TheVariants.{Held}
use Rattle.audit.proofs.Pairs.{Beside}
use Rattle.audit.proofs.auditing.are_apart.Given as goal

abbrev pub invariant-loop-slot : goal.invariant-loop-slot
invariant-loop-slot l = Beside l.before (Held l.number l.claim) l.slot-iterator.size l.slot-iterator.rest.now
