-- All definitions of this crate and of the words below it, opened by one name. Assumes nothing.
use Rattle.words.specs.Test.{any_of}
use Rattle.words.specs.Said.{and_then}
use Rattle.words.specs.Lines.{line}
use Rattle.words.specs.Refusal.{number_of}
use Rattle.words.specs.Number.{number_from, within, number_at}
use Rattle.words.specs.Realm.{zero_realm, unknown_realm, realm_at, same_realm, less_realm}
use Rattle.records.specs.Kind.{body, bodies, body_of, body_length, size, is_known, is_foreign, wants_mask}
use Rattle.records.specs.Reading.{record_of, read_as, read_of, when_whole}
use Rattle.records.specs.Standing.{rises, is_forbidden, lacks_control}
use Rattle.list.specs.Fault.{begins, no_record, fault, end_fault}
use Rattle.list.specs.Checking.{found, cut_from, cut, placed, wholes, records, refused_at, passed, faults_after, has, seen_in, check_says}

-- one name that opens every definition, for what is computed
unfoldable pub all : Unit {0}
unfolding any_of and_then line number_of number_from within number_at zero_realm unknown_realm realm_at same_realm less_realm body bodies body_of body_length size is_known is_foreign wants_mask record_of read_as read_of when_whole no_record rises is_forbidden fault lacks_control end_fault begins found cut_from cut placed wholes records refused_at passed faults_after has seen_in check_says
all = tt
