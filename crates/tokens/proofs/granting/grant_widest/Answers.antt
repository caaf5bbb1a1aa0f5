use native.Mathlib.Omega.{arith}
use borrow.Author.Rules.{rules}
use Rattle.table.proofs.Calls.{ill_refused}
use Rattle.tokens.specs.Grant.{grant_says}
use Rattle.tokens.proofs.Widening.{refused_so, widest_so}
use Rattle.tokens.proofs.granting.grant_widest.Goals as goal

pub returns-in_err-seen : goal.returns-in_err-seen
returns-in_err-seen c = let e = refused_so c.args.table.now c.args.claim (ill_refused (grant_says c.args.claim) c.args.table.now c.in_err-seen.ensures.ill.0 c.in_err-seen.ensures.ill.1) in search rules

pub returns-in_err-free : goal.returns-in_err-free
returns-in_err-free c = let e = refused_so c.args.table.now c.args.claim c.in_err-free.ensures.err in search rules

pub returns : goal.returns
returns c = widest_so c.args.table.now c.args.claim c.in_ok-free.ensures.ok.1 (λ k. (c.slice_known-1.given k).fits) (omega (arith, c.well_formed.1.0)) c.in_ok-seen.field-0.range c.in_ok-seen.ensures.saw.2 c.with_range.ensures c.issue-number.ensures
