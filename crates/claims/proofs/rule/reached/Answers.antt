use Rattle.claims.proofs.Masks.{whole_range, no_range}
use Rattle.claims.proofs.rule.reached.Goals as goal

pub returns-then-overlapping : goal.returns-then-overlapping
returns-then-overlapping c = whole_range c.args.overlapping c.if-overlapping.true

pub returns-else-overlapping : goal.returns-else-overlapping
returns-else-overlapping c = no_range c.args.overlapping c.if-overlapping.false
