use native.Mathlib.Omega.{arith}
use Rattle.words.proofs.Digits.{four}
use Rattle.words.proofs.number.four.Goals as goal

pub returns : goal.returns
returns c = omega (arith, c.from_be_bytes.ensures, four c.args.bytes.now c.args.at c.requires)
