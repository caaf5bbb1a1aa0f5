use Rattle.surveys.proofs.Surveyed.{rival_passed}
use Rattle.surveys.proofs.wide.pass_beside.Goals as goal

pub returns : goal.returns
returns c = rival_passed c.args.told c.args.held c.args.claim c.requires.1 c.pass_token.ensures c.beside.ensures
