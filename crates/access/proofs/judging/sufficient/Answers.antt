use Rattle.access.proofs.Sufficient.{missing, enough}
use Rattle.access.proofs.judging.sufficient.Goals as goal

pub returns-then-rights-needs : goal.returns-then-rights-needs
returns-then-rights-needs c = missing c.args.rights c.args.needs c.if-rights-needs.true

pub returns : goal.returns
returns c = enough c.args.rights c.args.needs c.if-rights-needs.false
