use borrow.Author.Rules.{rules}
use Rattle.mastarik.proofs.Carried.{fills}
use Rattle.mastarik.proofs.tables.mastarik_fill.Goals as goal

pub returns : goal.returns
returns c = search (fills, rules)
