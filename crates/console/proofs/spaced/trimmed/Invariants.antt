use Rattle.std.proofs.Common.{length}
use Rattle.console.proofs.spaced.trimmed.Given as goal

abbrev pub invariant-loop-text : goal.invariant-loop-text
invariant-loop-text l = Unit {0}

abbrev pub decreases-loop-text : goal.decreases-loop-text
decreases-loop-text l = length l.text
