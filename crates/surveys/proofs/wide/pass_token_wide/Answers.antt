use mathlib.Core.Path.{sym, ◌∙◌}
use native.Mathlib.Omega.{arith}
use Rattle.surveys.proofs.Surveyed.{no_rival_passed, rival_meets}
use Rattle.surveys.proofs.wide.pass_token_wide.Goals as goal

pub returns-then-not-is_rival : goal.returns-then-not-is_rival
returns-then-not-is_rival c = no_rival_passed c.args.told c.args.held c.args.claim (omega (arith, c.well_formed)) (sym c.is_rival.ensures.answer ∙ c.if-not-is_rival.true)

pub pass_beside-requires : goal.pass_beside-requires
pass_beside-requires c = (c.requires, (sym c.is_rival.ensures.answer ∙ c.if-not-is_rival.false))

pub pass_beside-requires-then-claim-held : goal.pass_beside-requires-then-claim-held
pass_beside-requires-then-claim-held c = (c.requires, (sym c.is_rival.ensures.answer ∙ c.if-not-is_rival.false))

pub returns : goal.returns
returns c = rival_meets c.args.told c.args.held c.args.claim (sym c.is_rival.ensures.answer ∙ c.if-not-is_rival.false) c.if-held-claim.false c.if-claim-held.false
