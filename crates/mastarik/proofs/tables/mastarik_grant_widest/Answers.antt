use borrow.Author.Rules.{rules}
use Rattle.mastarik.proofs.Carried.{grants_widest}
use Rattle.mastarik.proofs.tables.mastarik_grant_widest.Goals as goal

pub returns : goal.returns
returns c = search (grants_widest, rules)
