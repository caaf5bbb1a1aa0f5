-- All definitions of this crate and of those below it, opened by one name. Assumes nothing.
use Rattle.table.proofs.Opened.{all as tables}
use Rattle.returns.specs.Return.{is_of, types_in, keeps, loses, place_in, token_in, return_says, returned}
use Rattle.returns.specs.DropHost.{is_hosts, freed, drop_says, dropped}

-- one name that opens every definition, for what is computed
unfoldable pub all : Unit {0}
unfolding tables is_of types_in keeps loses place_in token_in return_says returned is_hosts freed drop_says dropped
all = tt
