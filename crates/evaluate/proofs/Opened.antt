-- All definitions of this crate and of those below it, opened by one name. Assumes nothing.
use Rattle.words.specs.Test.{those}
use Rattle.list.proofs.Opened.{all as lists}
use Rattle.evaluate.specs.Asking.{of_default_realm, in_group}
use Rattle.evaluate.specs.Steps.{masked, unmasked, here, abroad, steps, serving, served_from, union, is_mask, masking, rights_by, first}
use Rattle.evaluate.specs.Evaluation.{bare, unless_too_many, unless_refused, by_step, served_in, list_gives, evaluation}

-- one name that opens every definition, for what is computed
unfoldable pub all : Unit {0}
unfolding lists those of_default_realm in_group masked unmasked here abroad steps serving served_from union is_mask masking rights_by first bare unless_too_many unless_refused by_step served_in list_gives evaluation
all = tt
