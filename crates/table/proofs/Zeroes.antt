-- Zero bytes, asked eight at a time. Assumes nothing.
use mathlib.Core.Path.{◌≡◌, sym, ◌∙◌, ap}
use mathlib.Core.Bool.{Bool, ◌&&◌}
use mathlib.Core.List.{List}
use Prim.Native.Nat.{ℕ, ◌+◌, ◌≤◌}
use native.Mathlib.Omega.{arith}
use lib.Dec.{eqb}
use lib.ListN.{length, drop, length-drop}
use lib.Seq.{take_all}
use Rattle.words.specs.Number.{part, number_at}
use Rattle.words.proofs.Tests.{all_append}
use Rattle.words.proofs.Digits.{zero_number, part_add}
use Rattle.words.proofs.Order.{number_at_lem}
use Rattle.table.specs.Layout.{width}
use Rattle.table.specs.Form.{all_zero}

module _ (s : List ℕ) where
  eight : (at : ℕ) → at + 8 ≤ length s → eqb (number_at 8 at s) 0 ≡ all_zero (part at 8 s)
  unfolding all_zero
  eight at h = ap (λ (n : ℕ). eqb n 0) (number_at_lem 8 at s h) ∙ zero_number (part at 8 s)

  more : (n : ℕ) (b : Bool) → b ≡ all_zero (part 1 n s) → 1 + n + 8 ≤ length s → (b && eqb (number_at 8 (1 + n) s) 0) ≡ all_zero (part 1 (n + 8) s)
  unfolding all_zero
  more n b e h =
      rw (e, eight (1 + n) h)
      (sym (ap all_zero (part_add 1 n 8 s) ∙ all_append (λ b. eqb b 0) (part 1 n s) (part (1 + n) 8 s)))

  pub header_zeroes : width ≤ length s
      → (eqb (number_at 8 1 s) 0 && eqb (number_at 8 9 s) 0 && eqb (number_at 8 17 s) 0 && eqb (number_at 8 25 s) 0) ≡ all_zero (part 1 32 s)
  header_zeroes h = more 24 _ (more 16 _ (more 8 _ (eight 1 (omega arith)) (omega arith)) (omega arith)) (omega arith)

  pub slot_zeroes : length s ≡ width
      → (eqb (number_at 8 1 s) 0 && eqb (number_at 8 9 s) 0 && eqb (number_at 8 17 s) 0 && eqb (number_at 8 25 s) 0 && eqb (number_at 8 33 s) 0)
      ≡ all_zero (drop 1 s)
  slot_zeroes h =
      more 32 _ (header_zeroes (omega arith)) (omega arith)
      ∙ ap all_zero (take_all 40 (drop 1 s) (rw (length-drop 1 s) (omega arith)))
