-- All definitions of this crate and of those below it, opened by one name. Assumes nothing.
use Rattle.rights.proofs.Opened.{all as rights}
use Rattle.tokens.proofs.Opened.{all as tokens}
use Rattle.access.specs.Needs.{needs, need, needed}
use Rattle.access.specs.Access.{sufficient, permits, access_says}
use Rattle.desk.specs.Order.{judged_says}
use Rattle.desk.specs.Grant.{grant_says}
use Rattle.desk.specs.Ask.{ask_says}

-- one name that opens every definition, for what is computed
unfoldable pub all : Unit {0}
unfolding rights tokens needs need needed sufficient permits access_says judged_says grant_says ask_says
all = tt
