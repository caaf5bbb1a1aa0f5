use borrow.Author.Rules.{rules}
use Rattle.mastarik.proofs.Carried.{gives}
use Rattle.mastarik.proofs.lists.mastarik_rights.Goals as goal

pub returns : goal.returns
returns c = search (gives, rules)
