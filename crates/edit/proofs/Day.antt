-- The cases of editing hold of the definitions, by one computed test. Assumes nothing.
use mathlib.Core.Path.{refl}
use Rattle.words.specs.Lines.{Hold}
use Rattle.words.proofs.Lines.{same_values, same_said, all_hold, by_test}
use Rattle.list.specs.Day.{realm_r, realm_s, header_r, objects, list_e}
use Rattle.edit.specs.Day.{shown, entry, user, object, put_to, drop_to, put, dropped, bare, puts, drops, refusals, day}
use Rattle.edit.proofs.Opened.{all}

pub day_holds : Hold day
unfolding all same_values same_said all_hold realm_r realm_s header_r objects list_e shown entry user object put_to drop_to put dropped bare puts drops refusals day
day_holds = by_test day refl
