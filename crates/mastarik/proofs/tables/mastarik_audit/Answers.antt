use borrow.Author.Rules.{rules}
use Rattle.mastarik.proofs.Carried.{audits}
use Rattle.mastarik.proofs.tables.mastarik_audit.Goals as goal

pub returns : goal.returns
returns c = search (audits, rules)
