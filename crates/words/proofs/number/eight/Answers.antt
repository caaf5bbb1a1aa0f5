use native.Mathlib.Omega.{arith}
use Rattle.words.proofs.Digits.{eight}
use Rattle.words.proofs.number.eight.Goals as goal

pub returns : goal.returns
returns c = omega (arith, c.from_be_bytes.ensures, eight c.args.bytes.now c.args.at c.requires)
