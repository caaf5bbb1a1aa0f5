use mathlib.Core.Path.{refl}
use Rattle.words.proofs.Reading.{there}
use Rattle.writes.proofs.Stored.{written_there, written_nowhere}
use Rattle.writes.proofs.number.U32Store.store.Goals as goal

pub store_four-requires : goal.store_four-requires
store_four-requires c = there refl c.holds.ensures c.if-holds.true

pub returns-then-holds : goal.returns-then-holds
returns-then-holds c = written_there refl c.holds.ensures c.if-holds.true c.store_four.ensures

pub returns-else-holds : goal.returns-else-holds
returns-else-holds c = written_nowhere refl c.holds.ensures c.if-holds.false refl
