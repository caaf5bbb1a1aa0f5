-- All definitions of this crate and of those below it, opened by one name. Assumes nothing.
use Rattle.words.specs.Test.{those}
use Rattle.words.specs.Writing.{digits}
use Rattle.words.specs.Realm.{realm_bytes}
use Rattle.list.proofs.Opened.{all as lists}
use Rattle.entry.specs.Entry.{is_entry, record_for}
use Rattle.entry.specs.Spelling.{part_of, spelled, spell}
use Rattle.entry.specs.NewList.{records_in, same_entry, put_in, drop_from, putting, dropping, has_entry}
use Rattle.entry.specs.Plan.{put_judged, drop_judged}

-- one name that opens every definition, for what is computed
unfoldable pub all : Unit {0}
unfolding lists those digits realm_bytes is_entry record_for part_of spelled spell records_in same_entry put_in drop_from putting dropping has_entry put_judged drop_judged
all = tt
