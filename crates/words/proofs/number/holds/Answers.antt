use mathlib.Core.Path.{sym}
use Prim.Native.Nat.{◌+◌}
use native.Mathlib.Omega.{arith}
use borrow.Author.Tests.{lt-leb}
use lib.ListN.{length}
use Rattle.words.specs.Number.{within}
use Rattle.words.proofs.Digits.{room}
use Rattle.words.proofs.number.holds.Goals as goal

pub returns-then-n-width : goal.returns-then-n-width
unfolding within
returns-then-n-width c = let a = c.args in record { answer = sym (lt-leb (a.at + a.width) (length a.bytes.now) (omega arith)) }

pub returns : goal.returns
unfolding within
returns c = let a = c.args in record { answer = room a.at a.width (length a.bytes.now) (omega arith) }
