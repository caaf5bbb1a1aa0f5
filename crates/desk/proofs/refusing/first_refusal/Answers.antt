use Rattle.desk.proofs.Judged.{ill_formed, misshapen, by_verdict}
use Rattle.desk.proofs.refusing.first_refusal.Goals as goal

pub returns-then-not-well_formed : goal.returns-then-not-well_formed
returns-then-not-well_formed c = ill_formed c.args.table.now c.args.claim c.args.verdict c.well_formed-2.ensures.answer c.if-not-well_formed.true

pub returns-then-is_malformed : goal.returns-then-is_malformed
returns-then-is_malformed c = misshapen c.args.table.now c.args.claim c.args.verdict c.well_formed-2.ensures.answer c.if-not-well_formed.false c.is_malformed.ensures.answer c.if-is_malformed.true

pub returns : goal.returns
returns c = by_verdict c.args.table.now c.args.claim c.args.verdict c.well_formed-2.ensures.answer c.if-not-well_formed.false c.is_malformed.ensures.answer c.if-is_malformed.false
