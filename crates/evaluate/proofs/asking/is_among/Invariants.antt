use mathlib.Core.Path.{◌≡◌}
use lib.ListN.{drop}
use Rattle.evaluate.proofs.Groups.{among}
use Rattle.evaluate.proofs.asking.is_among.Given as goal

abbrev pub invariant-loop-group : goal.invariant-loop-group
invariant-loop-group l = among l.id l.groups ≡ among l.id (drop l.group-index l.groups)
