-- The sample day holds of the definitions, by one computed test. Assumes nothing.
use mathlib.Core.Path.{refl}
use Rattle.words.specs.Lines.{Hold}
use Rattle.words.proofs.Lines.{same_values, same_said, all_hold, by_test}
use Rattle.list.specs.Day.{fine, refused_with, header_r, objects, list_e, unknown_bytes, starred, others, ours, day}
use Rattle.list.proofs.Opened.{all}

pub day_holds : Hold day
unfolding all same_values same_said all_hold fine refused_with header_r objects list_e unknown_bytes starred others ours day
day_holds = by_test day refl
