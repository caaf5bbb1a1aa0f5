-- The sample day holds of the definitions, by one computed test for each crate's lines. Assumes nothing.
use mathlib.Core.Path.{refl}
use mathlib.Core.List.{◌++◌}
use Rattle.words.specs.Lines.{Hold}
use Rattle.words.proofs.Lines.{same_values, same_said, all_hold, by_test, together}
use Rattle.list.specs.Day.{realm_r, realm_s, header_r, objects, list_e, day as listDay}
use Rattle.list.proofs.Day.{day_holds as lists-hold}
use Rattle.rights.specs.Day.{shown, gives, refusing, caller, nobody, the_file, the_directory, by, by_mode, grouped, foreign, starred, others, ours, zero_e, local, day}
use Rattle.rights.proofs.Opened.{all}

pub day_holds : Hold day
unfolding all same_values same_said all_hold header_r objects list_e shown gives refusing realm_r realm_s caller nobody the_file the_directory by by_mode grouped foreign starred others ours zero_e local day
day_holds = together listDay (starred ++ (others ++ (ours ++ local))) lists-hold (by_test (starred ++ (others ++ (ours ++ local))) refl)
