use borrow.Author.Rules.{rules}
use Rattle.mastarik.proofs.Carried.{grants}
use Rattle.mastarik.proofs.tables.mastarik_grant.Goals as goal

pub returns : goal.returns
returns c = search (grants, rules)
