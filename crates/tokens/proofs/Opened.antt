-- All definitions of this crate and of those below it, opened by one name. Assumes nothing.
use Rattle.table.specs.Table.{is_free, is_in_the_way}
use Rattle.table.proofs.Opened.{all as tables}
use Rattle.tokens.specs.Grant.{last_number, room_says, request_says, serve_says, grant_says, granted}
use Rattle.widest.specs.Widest.{later, earlier, is_rival, beside, narrowed, widened}
use Rattle.tokens.specs.Widest.{with_more}
use Rattle.tokens.specs.Ask.{entry_bytes, entry_for, in_the_way, list_for, list_says, ask_says}

-- one name that opens every definition, for what is computed
unfoldable pub all : Unit {0}
unfolding tables is_free is_in_the_way last_number room_says request_says serve_says grant_says granted later earlier is_rival beside narrowed widened with_more entry_bytes entry_for in_the_way list_for list_says ask_says
all = tt
