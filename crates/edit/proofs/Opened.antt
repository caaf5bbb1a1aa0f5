-- All definitions of this crate and of those below it, opened by one name. Assumes nothing.
use Rattle.entry.proofs.Opened.{all as entries}
use Rattle.edit.specs.Editing.{room_says, put_says, drop_says}

-- one name that opens every definition, for what is computed
unfoldable pub all : Unit {0}
unfolding entries room_says put_says drop_says
all = tt
