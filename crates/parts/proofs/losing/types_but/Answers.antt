use native.Mathlib.Omega.{arith}
use lib.Bits.{bit_and, and_le_l}
use Rattle.claims.proofs.Fewer.{without_any}
use Rattle.parts.proofs.losing.types_but.Goals as goal

pub overflow_sub-result : goal.overflow_sub-result
overflow_sub-result c = omega (arith, and_le_l (bit_and c.args.held 255) c.args.types)

pub returns : goal.returns
returns c = without_any c.args.held c.args.types
