use Rattle.std.proofs.Common.{◌≤◌, length}
use Rattle.console.proofs.files.fill.Given as goal

abbrev pub invariant-loop : goal.invariant-loop
invariant-loop g l = l.filled ≤ length l.bytes
