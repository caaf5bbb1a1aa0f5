use native.Mathlib.Omega.{arith}
use Rattle.words.proofs.Digits.{two}
use Rattle.words.proofs.number.two.Goals as goal

pub returns : goal.returns
returns c = omega (arith, c.from_be_bytes.ensures, two c.args.bytes.now c.args.at c.requires)
