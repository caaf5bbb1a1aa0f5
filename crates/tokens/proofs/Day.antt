-- The sample day's requests hold of the definitions, by one computed test. Assumes nothing.
use mathlib.Core.Path.{refl}
use Rattle.words.specs.Lines.{Hold}
use Rattle.words.proofs.Lines.{same_values, same_said, all_hold, by_test}
use Rattle.table.specs.Day.{claim, eight, header, slot, free, empty, one, two, back, three}
use Rattle.tokens.specs.Day.{grants, after, widens, asks, lists, far, status, far_and_near, starred, others, between, ours, widest, day}
use Rattle.tokens.proofs.Opened.{all}

pub day_holds : Hold day
unfolding all same_values same_said all_hold claim eight header slot free empty one two back three grants after widens asks lists far status far_and_near starred others between ours widest day
day_holds = by_test day refl
