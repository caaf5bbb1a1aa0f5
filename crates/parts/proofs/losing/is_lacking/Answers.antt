use Rattle.claims.proofs.Fewer.{lacks_any}
use Rattle.parts.proofs.losing.is_lacking.Goals as goal

pub returns : goal.returns
returns c = lacks_any c.args.held c.args.types
