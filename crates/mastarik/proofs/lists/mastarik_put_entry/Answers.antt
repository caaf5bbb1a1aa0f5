use borrow.Author.Rules.{rules}
use Rattle.mastarik.proofs.Carried.{puts}
use Rattle.mastarik.proofs.lists.mastarik_put_entry.Goals as goal

pub returns : goal.returns
returns c = search (puts, rules)
