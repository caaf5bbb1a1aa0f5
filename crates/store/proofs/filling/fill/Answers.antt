use mathlib.Core.Path.{sym, ◌∙◌}
use native.Mathlib.Omega.{arith}
use Rattle.words.specs.Said.{left}
use Rattle.words.specs.Refusal.{refusal_number, refusal_value, values_in, refusal_says, says_by}
use Rattle.table.specs.Fill.{fill_says}
use Rattle.table.proofs.Cuts.{sized}
use Rattle.store.proofs.Fresh.{all_filled}
use Rattle.store.proofs.filling.fill.Goals as goal

pub returns-then-not-is_length : goal.returns-then-not-is_length
unfolding fill_says left says_by refusal_says refusal_number refusal_value values_in
returns-then-not-is_length c = record { answer = simp (← c.is_length.ensures.answer, c.if-not-is_length.true); table_after = simp (← c.is_length.ensures.answer, c.if-not-is_length.true) }

pub bounds-table-0 : goal.bounds-table-0
bounds-table-0 c = let e = sym c.is_length.ensures.answer ∙ c.if-not-is_length.false in let w = (sized c.args.table.now e).whole in omega (arith, c.fill.ensures.len)

pub returns : goal.returns
unfolding fill_says says_by
returns c =
    let e = sym c.is_length.ensures.answer ∙ c.if-not-is_length.false in
    record { answer = simp e; table_after = rw e (all_filled c.args.table.now (sized c.args.table.now e) _ _ (c.fill.ensures.after (λ y e. e)) c.write_number.ensures.bytes_after) }
