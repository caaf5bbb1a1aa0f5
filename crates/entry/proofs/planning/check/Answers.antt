use mathlib.Core.Path.{sym, ◌∙◌}
use Rattle.words.proofs.Refusals.{handed_on}
use Rattle.entry.proofs.Outcomes.{unchecked, unknown, known}
use Rattle.entry.proofs.planning.check.Goals as goal

pub returns-in_err-check_list : goal.returns-in_err-check_list
returns-in_err-check_list c = rw (handed_on _ _ c.from_residual.ensures.1) (unchecked c.in_err-check_list.ensures)

pub returns-then-not-is_entry : goal.returns-then-not-is_entry
returns-then-not-is_entry c = rw c.at.ensures.answer (unknown c.in_ok-check_list.ensures (sym c.is_entry.ensures ∙ c.if-not-is_entry.true))

pub returns : goal.returns
returns c = known c.in_ok-check_list.ensures (sym c.is_entry.ensures ∙ c.if-not-is_entry.false)
