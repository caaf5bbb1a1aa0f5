use borrow.Author.Rules.{rules}
use Rattle.mastarik.proofs.Carried.{checks}
use Rattle.mastarik.proofs.lists.mastarik_check.Goals as goal

pub returns : goal.returns
returns c = search (checks, rules)
