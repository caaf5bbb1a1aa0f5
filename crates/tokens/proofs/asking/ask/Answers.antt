use native.Mathlib.Omega.{arith}
use borrow.Author.Rules.{rules}
use Rattle.table.proofs.Calls.{ill_refused}
use Rattle.tokens.specs.Ask.{ask_says}
use Rattle.tokens.proofs.Asked.{refused_so, misshapen, few_entries, list_end, too_short, all_listed}
use Rattle.tokens.proofs.asking.ask.Goals as goal

pub returns-in_err-conflicts : goal.returns-in_err-conflicts
returns-in_err-conflicts c =
    let s = c.in_err-conflicts.ensures in
    let e = refused_so c.args.table.now c.args.claim c.args.out.now (ill_refused (ask_says c.args.claim c.args.out.now) c.args.table.now s.ill.0 s.ill.1) in search rules

pub returns-then-is_malformed : goal.returns-then-is_malformed
returns-then-is_malformed c = misshapen c.args.table.now c.args.claim c.args.out.now c.in_ok-conflicts.ensures.saw.0 c.is_malformed.ensures.answer c.if-is_malformed.true

pub overflow_mul-end : goal.overflow_mul-end
overflow_mul-end c =
    let s = c.in_ok-conflicts.ensures.saw in
    let k = few_entries c.args.table.now c.args.claim c.args.out.now s.0 c.is_malformed.ensures.answer c.if-is_malformed.false s.1 in omega arith

pub returns-then-out-end : goal.returns-then-out-end
returns-then-out-end c =
    let s = c.in_ok-conflicts.ensures.saw in too_short c.args.table.now c.args.claim c.args.out.now s.0 c.is_malformed.ensures.answer c.if-is_malformed.false s.1 c.if-out-end.true

pub list_all-requires : goal.list_all-requires
list_all-requires c =
    let s = c.in_ok-conflicts.ensures.saw in
    (list_end c.args.table.now c.args.claim c.args.out.now s.0 c.is_malformed.ensures.answer c.if-is_malformed.false s.1, c.if-out-end.false)

pub returns : goal.returns
returns c =
    let s = c.in_ok-conflicts.ensures.saw in
    all_listed c.args.table.now c.args.claim c.args.out.now s.0 c.is_malformed.ensures.answer c.if-is_malformed.false s.1 c.if-out-end.false c.list_all.ensures
