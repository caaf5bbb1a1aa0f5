use mathlib.Core.Path.{refl, sym, ◌∙◌}
use native.Mathlib.Omega.{arith}
use Rattle.words.proofs.Written.{over_none}
use Rattle.table.specs.Table.{is_in_the_way}
use Rattle.tokens.specs.Scan.{entry_if}
use Rattle.tokens.proofs.asking.list_slot.Goals as goal

pub returns-in-Free : goal.returns-in-Free
unfolding entry_if is_in_the_way
returns-in-Free c = record { end = rw c.in-Free.is (omega arith); out_after = rw c.in-Free.is (sym (over_none c.args.at c.args.out.now)) }

pub returns-in-Held : goal.returns-in-Held
unfolding entry_if is_in_the_way
returns-in-Held c = record { end = c.list_token.ensures.end ∙ rw c.in-Held.is refl; out_after = c.list_token.ensures.out_after ∙ rw c.in-Held.is refl }
