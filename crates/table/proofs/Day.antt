-- The sample day's tables hold of the definitions, by one computed test. Assumes nothing.
use mathlib.Core.Path.{refl}
use Rattle.words.specs.Lines.{Hold}
use Rattle.words.proofs.Lines.{same_values, same_said, all_hold, by_test}
use Rattle.table.specs.Day.{eight, header, free, empty, day}
use Rattle.table.proofs.Opened.{all}

pub day_holds : Hold day
unfolding all same_values same_said all_hold eight header free empty day
day_holds = by_test day refl
