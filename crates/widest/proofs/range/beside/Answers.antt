use Rattle.widest.specs.Widest.{over}
use Rattle.widest.proofs.Narrowed.{before_it, after_it, across_it}
use Rattle.widest.proofs.range.beside.Goals as goal

pub returns-then-held-asked : goal.returns-then-held-asked
returns-then-held-asked c = record { answer = before_it c.args.asked c.args.held (over c.args.asked c.args.range) c.if-held-asked.true c.later.ensures }

pub returns-then-asked-held : goal.returns-then-asked-held
returns-then-asked-held c = record { answer = after_it c.args.asked c.args.held (over c.args.asked c.args.range) c.if-held-asked.false c.if-asked-held.true c.earlier.ensures }

pub returns : goal.returns
returns c = record { answer = across_it c.args.asked c.args.held (over c.args.asked c.args.range) c.if-held-asked.false c.if-asked-held.false }
