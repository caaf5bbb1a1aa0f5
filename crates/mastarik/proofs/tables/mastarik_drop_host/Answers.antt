use borrow.Author.Rules.{rules}
use Rattle.mastarik.proofs.Carried.{frees}
use Rattle.mastarik.proofs.tables.mastarik_drop_host.Goals as goal

pub returns : goal.returns
returns c = search (frees, rules)
