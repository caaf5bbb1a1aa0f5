use Rattle.returns.proofs.Freed.{Freeing}
use Rattle.returns.proofs.dropping.free_all.Given as goal

abbrev pub invariant-loop-i : goal.invariant-loop-i
invariant-loop-i l = Freeing l.fn.table l.table l.host l.freed l.i
