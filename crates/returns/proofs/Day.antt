-- The sample day's return, and our cases, hold of the definitions, by one computed test. Assumes nothing.
use mathlib.Core.Path.{refl}
use Rattle.words.specs.Lines.{Hold}
use Rattle.words.proofs.Lines.{same_values, same_said, all_hold, by_test}
use Rattle.table.specs.Day.{eight, header, slot, free, one, two, back}
use Rattle.returns.specs.Day.{returns, given, drops, others, ours, damaged, day}
use Rattle.returns.proofs.Opened.{all}

pub day_holds : Hold day
unfolding all same_values same_said all_hold eight header slot free one two back returns given drops others ours damaged day
day_holds = by_test day refl
