use Rattle.mastarik.proofs.Carried.{tells_needs}
use Rattle.mastarik.proofs.types.mastarik_needs.Goals as goal

pub returns : goal.returns
returns c = tells_needs (rw c.from.ensures at c.told.ensures) c.needed_rights.ensures
