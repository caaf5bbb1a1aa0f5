use native.Mathlib.Omega.{arith}
use lib.Bits.{and_le_r}
use Rattle.claims.proofs.Masks.{by_family}
use Rattle.claims.proofs.rule.against_types.Goals as goal

pub overflow_mul-result : goal.overflow_mul-result
overflow_mul-result c = omega (arith, and_le_r c.args.types 85)

pub returns : goal.returns
returns c = by_family c.args.types
