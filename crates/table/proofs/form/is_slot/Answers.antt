use mathlib.Core.Path.{refl, ◌∙◌}
use Rattle.table.proofs.Forms.{other_length, free_slot, no_slot, token_slot}
use Rattle.table.proofs.form.is_slot.Goals as goal

pub returns-then-slot-ne-WIDTH : goal.returns-then-slot-ne-WIDTH
returns-then-slot-ne-WIDTH c = record { answer = other_length c.args.limit c.args.next c.args.slot.now c.if-slot-ne-WIDTH.true }

pub returns-then-kind-eq0 : goal.returns-then-kind-eq0
returns-then-kind-eq0 c = record { answer = free_slot c.args.limit c.args.next c.args.slot.now c.if-slot-ne-WIDTH.false c.kind_of-kind.ensures c.if-kind-eq0.true c.is_blank_slot.ensures }

pub returns-then-kind-ne1 : goal.returns-then-kind-ne1
returns-then-kind-ne1 c = record { answer = no_slot c.args.limit c.args.next c.args.slot.now c.if-slot-ne-WIDTH.false c.kind_of-kind.ensures c.if-kind-eq0.false c.if-kind-ne1.true }

pub returns : goal.returns
returns c = record { answer = token_slot c.args.limit c.args.next c.args.slot.now c.if-slot-ne-WIDTH.false c.kind_of-kind.ensures c.if-kind-eq0.false c.if-kind-ne1.false (c.is_token.ensures ∙ rw (c.number_at.ensures.answer, c.read_claim.ensures) refl) }
