use mathlib.Core.Path.{refl}
use Rattle.words.proofs.Reading.{there, read_there, read_missing}
use Rattle.words.proofs.number.U16Number.whole.Goals as goal

pub two-requires : goal.two-requires
two-requires c = there refl c.holds.ensures c.if-holds.true

pub returns-then-holds : goal.returns-then-holds
returns-then-holds c = read_there refl c.holds.ensures c.if-holds.true c.two.ensures

pub returns-else-holds : goal.returns-else-holds
returns-else-holds c = read_missing refl c.holds.ensures c.if-holds.false c.zero.ensures.answer
