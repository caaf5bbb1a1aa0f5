-- The sample day holds of the definitions, by one computed test. Assumes nothing.
use mathlib.Core.Path.{refl}
use Rattle.words.specs.Lines.{Hold}
use Rattle.words.proofs.Lines.{same_values, same_said, all_hold, by_test}
use Rattle.list.specs.Day.{refused_with, realm_r, realm_s, header_r, objects, list_e, starred as listsStarred}
use Rattle.rights.specs.Day.{shown, gives, caller, the_file, the_directory, by, by_mode as rightsByMode, starred as rightsStarred}
use Rattle.table.specs.Day.{claim, eight, header, slot, free, empty, one, two, back, three}
use Rattle.tokens.specs.Day.{far, status}
use Rattle.desk.specs.Day.{user, owner, visitor, by_mode, grants, after, asks, lists, needing, judging, starred, others, types, ours, day}
use Rattle.desk.proofs.Opened.{all}

pub day_holds : Hold day
unfolding all same_values same_said all_hold refused_with realm_r realm_s header_r objects list_e listsStarred shown gives caller the_file the_directory by rightsByMode rightsStarred claim eight header slot free empty one two back three far status user owner visitor by_mode grants after asks lists needing judging starred others types ours day
day_holds = by_test day refl
