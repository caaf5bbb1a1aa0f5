use mathlib.Core.Path.{◌≡◌, ap, refl}
use Prim.Native.Nat.{◌+◌, ◌-◌, ℕ}
use native.Mathlib.Omega.{arith}
use lib.ListN.{drop, take}
use Rattle.rights.proofs.decision.part_at.Goals as goal

pub returns : goal.returns
returns c = let a = c.args in let n : a.start + a.size - a.start ≡ a.size = omega arith in (ap (λ (n : ℕ). take n (drop a.start a.list.now)) n, refl)
