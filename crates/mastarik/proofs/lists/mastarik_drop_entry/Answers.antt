use borrow.Author.Rules.{rules}
use Rattle.mastarik.proofs.Carried.{drops}
use Rattle.mastarik.proofs.lists.mastarik_drop_entry.Goals as goal

pub returns : goal.returns
returns c = search (drops, rules)
