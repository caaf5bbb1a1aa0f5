use Rattle.tokens.proofs.Listed.{token_passed, token_listed}
use Rattle.tokens.proofs.asking.list_token.Goals as goal

pub returns-then-types-eq0 : goal.returns-then-types-eq0
returns-then-types-eq0 c = token_passed c.args.number c.args.held c.args.claim c.args.out.now c.args.at c.conflict-types.ensures.answer c.if-types-eq0.true

pub returns : goal.returns
returns c = token_listed c.args.number c.args.held c.args.claim c.args.out.now c.args.at c.conflict-types.ensures.answer c.if-types-eq0.false c.write_entry.ensures
