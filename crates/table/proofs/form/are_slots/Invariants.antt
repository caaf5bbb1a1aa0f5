use Rattle.table.proofs.Scans.{Checked}
use Rattle.table.proofs.form.are_slots.Given as goal

abbrev pub invariant-loop-slot : goal.invariant-loop-slot
invariant-loop-slot l = Checked l.table l.limit l.next l.slot-iterator.size l.slot-iterator.rest.now
