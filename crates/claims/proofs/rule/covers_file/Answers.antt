use Rattle.claims.proofs.Masks.{some_cover_lem}
use Rattle.claims.proofs.rule.covers_file.Goals as goal

pub returns : goal.returns
returns c = record { answer = some_cover_lem c.args.types }
