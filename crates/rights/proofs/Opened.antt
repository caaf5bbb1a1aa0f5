-- All definitions of this crate and of those below it, opened by one name. Assumes nothing.
use Rattle.words.specs.Bit.{bit}
use Rattle.evaluate.proofs.Opened.{all as evaluations}
use Rattle.rights.specs.Right.{read, write, execute, control, insert, delete}
use Rattle.rights.specs.Mode.{digit_rights, class_rights, with_write, mode_rights}
use Rattle.rights.specs.Deciding.{by_mode, by_guard, decided}

-- one name that opens every definition, for what is computed
unfoldable pub all : Unit {0}
unfolding evaluations bit read write execute control insert delete digit_rights class_rights with_write mode_rights by_mode by_guard decided
all = tt
