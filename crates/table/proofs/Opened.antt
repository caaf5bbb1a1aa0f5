-- All definitions of this crate and of those below it, opened by one name. Assumes nothing.
use Rattle.words.specs.Test.{any_of, all_of, those, place_of}
use Rattle.words.specs.Said.{and_then, left}
use Rattle.words.specs.Lines.{line}
use Rattle.words.specs.Bit.{bit}
use Rattle.words.specs.Number.{number_from, within, number_at}
use Rattle.words.specs.Writing.{digits}
use Rattle.claims.specs.Types.{set_below, some_below, without, lacks}
use Rattle.claims.specs.Claim.{unfit, malformed}
use Rattle.claims.specs.Rule.{family, is_second, covers_file, same_file, overlaps, clash, conflict}
use Rattle.table.specs.Table.{limit}
use Rattle.table.specs.Layout.{kind_of, claim_of, slot_of, file_bytes, field_bytes, slot_bytes, cut, slots_in, next_in, header_bytes, table_of, joined, bytes_of}
use Rattle.table.specs.Form.{is_length, all_zero, is_header, is_token, is_slot, opening, well_formed}
use Rattle.table.specs.Fill.{filled}
use Rattle.table.specs.Call.{says_of, left_of}

-- one name that opens every definition, for what is computed
unfoldable pub all : Unit {0}
unfolding any_of all_of those place_of and_then left line bit number_from within number_at digits set_below some_below without lacks unfit malformed family is_second covers_file same_file overlaps clash conflict limit kind_of claim_of slot_of file_bytes field_bytes slot_bytes cut slots_in next_in header_bytes table_of joined bytes_of is_length all_zero is_header is_token is_slot opening well_formed filled says_of left_of
all = tt
