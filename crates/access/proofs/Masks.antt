-- The needed rights as the code tells them, by masks. Assumes nothing.
use Rattle.std.specs.Prelude.{if◌then◌else◌}
use mathlib.Core.Path.{◌≡◌, refl}
use mathlib.Core.Bool.{Bool, true, false, not}
use Prim.Native.Nat.{ℕ, ◌%◌}
use native.Mathlib.Omega.{arith}
use lib.Bits.{bit_and, bit_or}
use lib.Dec.{eqb}
use Rattle.words.specs.Bit.{bit}
use Rattle.rights.specs.Right.{read, write, control, insert, delete}
use Rattle.claims.specs.Types.{set_below, some_below}
use Rattle.claims.proofs.Masks.{agree, mask_low, some_low}
use Rattle.access.specs.Needs.{needs, need, needed}

-- as the code has it
unfoldable masked : Bool → ℕ → ℕ
masked dir types =
    bit_or (bit_or (if not (eqb (bit_and types 85) 0) then 1 else 0) (if not (eqb (bit_and types 8) 0) then 8 else 0))
    (if not (eqb (bit_and types 162) 0) then (if dir then bit_or insert delete else write) else 0)

masked_low : (dir : Bool) (types : ℕ) → masked dir types ≡ masked dir (types % 256)
unfolding masked
masked_low dir types = rw (mask_low types 85 (omega arith), mask_low types 8 (omega arith), mask_low types 162 (omega arith)) refl

needed_low : (dir : Bool) (types : ℕ) → needed dir types ≡ needed dir (types % 256)
unfolding needed
needed_low dir types = (λ k. set_below 6 (λ right. some_low types (λ i. bit right (need dir i)) k))

none_wrong : (dir : Bool) → some_below 256 (λ types. not (eqb (masked dir types) (needed dir types))) ≡ false
unfolding masked needed need needs set_below some_below bit read write control insert delete
none_wrong true = refl
none_wrong false = refl

pub by_masks : (dir : Bool) (types : ℕ)
    → bit_or (bit_or (if not (eqb (bit_and types 85) 0) then 1 else 0) (if not (eqb (bit_and types 8) 0) then 8 else 0))
    (if not (eqb (bit_and types 162) 0) then (if dir then bit_or insert delete else write) else 0) ≡ needed dir types
unfolding masked
by_masks dir = agree (masked dir) (needed dir) (none_wrong dir) (masked_low dir) (needed_low dir)
