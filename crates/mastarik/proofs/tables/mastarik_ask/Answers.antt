use borrow.Author.Rules.{rules}
use Rattle.mastarik.proofs.Carried.{asks}
use Rattle.mastarik.proofs.tables.mastarik_ask.Goals as goal

pub returns : goal.returns
returns c = search (asks, rules)
