use mathlib.Core.Path.{refl}
use Rattle.words.proofs.Reading.{there}
use Rattle.writes.proofs.Stored.{written_there, written_nowhere}
use Rattle.writes.proofs.number.U64Store.store.Goals as goal

pub store_eight-requires : goal.store_eight-requires
store_eight-requires c = there refl c.holds.ensures c.if-holds.true

pub returns-then-holds : goal.returns-then-holds
returns-then-holds c = written_there refl c.holds.ensures c.if-holds.true c.store_eight.ensures

pub returns-else-holds : goal.returns-else-holds
returns-else-holds c = written_nowhere refl c.holds.ensures c.if-holds.false refl
