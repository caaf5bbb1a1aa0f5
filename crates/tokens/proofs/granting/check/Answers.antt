use Rattle.tokens.proofs.Issued.{misshapen, in_conflict, no_room, numbers_spent, has_room}
use Rattle.tokens.proofs.granting.check.Goals as goal

pub returns-then-is_malformed : goal.returns-then-is_malformed
returns-then-is_malformed c = misshapen c.args.table.now c.args.claim c.requires c.is_malformed.ensures.answer c.if-is_malformed.true

pub returns-then-seen-ne0 : goal.returns-then-seen-ne0
returns-then-seen-ne0 c = in_conflict c.args.table.now c.args.claim c.requires c.is_malformed.ensures.answer c.if-is_malformed.false c.if-seen-ne0.true

pub returns-in_default : goal.returns-in_default
returns-in_default c = no_room c.args.table.now c.args.claim c.requires c.is_malformed.ensures.answer c.if-is_malformed.false c.if-seen-ne0.false c.in_default.is

pub returns-then-number_at-eq-LAST_NUMBER : goal.returns-then-number_at-eq-LAST_NUMBER
returns-then-number_at-eq-LAST_NUMBER c =
    numbers_spent c.args.table.now c.args.claim c.requires c.is_malformed.ensures.answer c.if-is_malformed.false c.if-seen-ne0.false c.in-Some.is c.number_at.ensures.answer c.if-number_at-eq-LAST_NUMBER.true

pub returns : goal.returns
returns c =
    has_room c.args.table.now c.args.claim c.requires c.is_malformed.ensures.answer c.if-is_malformed.false c.if-seen-ne0.false c.in-Some.is c.number_at.ensures.answer c.if-number_at-eq-LAST_NUMBER.false
