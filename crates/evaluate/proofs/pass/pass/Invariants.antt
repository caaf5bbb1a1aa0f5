use Prim.Native.Nat.{◌-◌}
use lib.ListN.{length}
use Rattle.list.proofs.Runs.{Leads}
use Rattle.evaluate.specs.Steps.{steps}
use Rattle.evaluate.specs.Tally.{no_tally, tallying}
use Rattle.evaluate.proofs.pass.pass.Given as goal

abbrev pub invariant-loop-r : goal.invariant-loop-r
invariant-loop-r l = Leads (tallying (steps l.home l.groups l.caller l.file)) l.list no_tally l.tally l.walk

abbrev pub decreases-loop-r : goal.decreases-loop-r
decreases-loop-r l = length l.list - l.walk.at
