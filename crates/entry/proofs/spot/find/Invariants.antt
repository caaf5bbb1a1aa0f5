use Prim.Native.Nat.{◌-◌}
use lib.ListN.{length}
use Rattle.entry.proofs.Spots.{Reached}
use Rattle.entry.proofs.spot.find.Given as goal

abbrev pub invariant-loop-at : goal.invariant-loop-at
invariant-loop-at l = Reached l.list l.r l.at

abbrev pub decreases-loop-at : goal.decreases-loop-at
decreases-loop-at l = length l.list - l.at
