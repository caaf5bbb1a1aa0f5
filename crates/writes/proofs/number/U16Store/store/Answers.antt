use mathlib.Core.Path.{refl}
use Rattle.words.proofs.Reading.{there}
use Rattle.writes.proofs.Stored.{written_there, written_nowhere}
use Rattle.writes.proofs.number.U16Store.store.Goals as goal

pub store_two-requires : goal.store_two-requires
store_two-requires c = there refl c.holds.ensures c.if-holds.true

pub returns-then-holds : goal.returns-then-holds
returns-then-holds c = written_there refl c.holds.ensures c.if-holds.true c.store_two.ensures

pub returns-else-holds : goal.returns-else-holds
returns-else-holds c = written_nowhere refl c.holds.ensures c.if-holds.false refl
