use mathlib.Core.Path.{sym, ◌∙◌}
use native.Mathlib.Omega.{arith}
use Rattle.table.specs.Form.{is_header, opening}
use Rattle.table.specs.Layout.{next_in}
use Rattle.table.proofs.Cuts.{sized}
use Rattle.table.proofs.form.opens.Goals as goal

pub returns-then-not-is_length : goal.returns-then-not-is_length
unfolding opening is_header next_in
returns-then-not-is_length c = record { answer = simp (← c.is_length.ensures.answer, c.if-not-is_length.true) }

pub is_blank_header-requires : goal.is_blank_header-requires
unfolding opening is_header next_in
is_blank_header-requires c = let s = sized c.args.table.now (sym c.is_length.ensures.answer ∙ c.if-not-is_length.false) in let w = s.whole in omega arith

pub returns : goal.returns
unfolding opening is_header next_in
returns c = record { answer = simp (← c.is_length.ensures.answer, c.if-not-is_length.false, c.kind_of.ensures, c.is_blank_header.ensures, c.number_at.ensures.answer) }
