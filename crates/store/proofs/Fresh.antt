-- A table that is filled. Assumes nothing.
use mathlib.Core.Path.{◌≡◌, refl, sym, ◌∙◌, ap}
use mathlib.Core.List.{List, [], ◌++◌, map}
use Prim.Native.Nat.{ℕ, zero, suc, ◌+◌, ◌*◌, ◌≤◌}
use native.Mathlib.Omega.{arith}
use lib.ListN.{length, set, replicate, length-set, length-replicate, replicate-append-replicate}
use lib.Seq.{set-append_left}
use Rattle.words.specs.Said.{done, left}
use Rattle.words.specs.Writing.{digits, over, written}
use Rattle.words.proofs.Written.{digits_length, over_length, over_front, written_all}
use Rattle.words.proofs.Left.{left_whole}
use Rattle.table.specs.Layout.{width, slot_bytes, header_bytes, count, joined, bytes_of}
use Rattle.table.specs.Fill.{filled}
use Rattle.table.specs.declared.slot.Slot.TheVariants.{Free}
use Rattle.table.proofs.Cuts.{Sized}

free_slots : (n : ℕ) → joined (map slot_bytes (replicate n Free)) ≡ replicate (width * n) 0
unfolding joined slot_bytes
free_slots zero = refl
free_slots (suc n) =
    let e : width + width * n ≡ width * suc n = omega arith in
    rw (free_slots n, replicate-append-replicate {A = ℕ} width (width * n) 0, e) refl

header : over 33 (digits 8 1) (set (replicate width 0) 0 2) ≡ header_bytes 1
unfolding header_bytes over digits
header = refl

fresh : (n l : ℕ) → l ≡ width + width * n → over 33 (digits 8 1) (set (replicate l 0) 0 2) ≡ bytes_of (filled n)
unfolding bytes_of filled
fresh n l e =
    rw (e, ← replicate-append-replicate {A = ℕ} width (width * n) 0)
    (ap (over 33 (digits 8 1)) (set-append_left (replicate width 0) (replicate (width * n) 0) 0 2 (omega arith))
    ∙ over_front 33 (digits 8 1) (set (replicate width 0) 0 2) (replicate (width * n) 0) (rw (digits_length 8 1) (omega arith))
    ∙ ap (λ (s : List ℕ). s ++ replicate (width * n) 0) header
    ∙ ap (λ (s : List ℕ). header_bytes 1 ++ s) (sym (free_slots n)))

module _ (bytes : List ℕ) (size : Sized bytes) where
  header_front : over 33 (digits 8 1) (set (replicate (length bytes) 0) 0 2) ≡ bytes_of (filled (count bytes))
  header_front = fresh (count bytes) (length bytes) (omega (arith, size.whole))

  pub all_filled : (s t : List ℕ) → s ≡ replicate (length bytes) 0 → t ≡ written 33 (digits 8 1) (set s 0 2)
      → t ≡ left (done []) (bytes_of (filled (count bytes))) bytes
  all_filled s t p q =
      let l : length {A = ℕ} (set (replicate (length bytes) 0) 0 2) ≡ length bytes = simp (length-set, length-replicate) in
      let k : 33 + length (digits 8 1) ≤ length {A = ℕ} (set (replicate (length bytes) 0) 0 2) = rw (l, digits_length 8 1) (omega (arith, size.whole, size.some)) in
      let made : t ≡ bytes_of (filled (count bytes)) = q ∙ rw p (written_all 33 (digits 8 1) (set (replicate (length bytes) 0) 0 2) k ∙ header_front) in
      let long : length (bytes_of (filled (count bytes))) ≡ length bytes = rw (← header_front, over_length 33 (digits 8 1) (set (replicate (length bytes) 0) 0 2) k) l in
      made ∙ sym (left_whole [] (bytes_of (filled (count bytes))) bytes long)
