-- Which line of a definition applies, by what was tested. Assumes nothing.
use mathlib.Core.Path.{◌≡◌}
use mathlib.Core.Bool.{Bool, true, false, ◌&&◌}
use Prim.Native.Nat.{ℕ, ◌/◌, ◌%◌}
use lib.Bits.{bit_or}
use lib.Dec.{eqb}
use Rattle.words.specs.Bit.{bit}
use Rattle.rights.specs.Right.{insert, delete}
use Rattle.rights.specs.Mode.{with_write}

module _ (dir : Bool) (rights : ℕ) where
  pub write_brings : (dir && eqb (rights / 2 % 2) 1) ≡ true → bit_or (bit_or rights 16) 32 ≡ with_write dir rights
  unfolding with_write bit insert delete
  write_brings q = simp q

  pub nothing_brought : (dir && eqb (rights / 2 % 2) 1) ≡ false → rights ≡ with_write dir rights
  unfolding with_write bit
  nothing_brought q = simp q
