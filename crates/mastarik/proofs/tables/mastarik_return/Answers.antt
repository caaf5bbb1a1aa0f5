use Rattle.mastarik.proofs.Carried.{returns as carried}
use Rattle.mastarik.proofs.tables.mastarik_return.Goals as goal

pub returns : goal.returns
returns c = carried c.told.ensures c.give_back.ensures
