-- A list has no more records than bytes: a larger bound cuts it no further. Assumes nothing.
use Rattle.std.specs.Prelude.{if◌then◌else◌, None, Some, Ok, Err}
use mathlib.Core.Path.{◌≡◌, refl, ap}
use mathlib.Core.List.{List, [], ◌∷◌}
use Prim.Native.Nat.{ℕ, zero, suc, ◌+◌, ◌≤◌}
use native.Mathlib.Omega.{arith}
use lib.Dec.{eqb}
use lib.ListN.{length, drop, length-drop}
use Rattle.records.specs.Reading.{Read, read_of, when_whole}
use Rattle.records.proofs.Tails.{within_tail}
use Rattle.list.specs.Checking.{Found, found, cut_from, cut}

bounds : (n m at : ℕ) (t : List ℕ) → length t ≤ n → length t ≤ m → cut_from n at t ≡ cut_from m at t
unfolding cut_from when_whole
bounds zero zero at t h k = refl
bounds zero (suc m) at [] h k = refl
bounds zero (suc m) at (x ∷ xs) h k = absurd (omega arith)
bounds (suc n) zero at [] h k = refl
bounds (suc n) zero at (x ∷ xs) h k = absurd (omega arith)
bounds (suc n) (suc m) at t h k = go (λ at u. bounds n m at u) (read_of t) refl
  where
    go : ((at : ℕ) (u : List ℕ) → length u ≤ n → length u ≤ m → cut_from n at u ≡ cut_from m at u) → (read : Read) → read_of t ≡ read
        → (if eqb (length t) 0 then [] else found at read ∷ when_whole read (λ r. cut_from n (at + r.size) (drop r.size t)) [])
        ≡ (if eqb (length t) 0 then [] else found at read ∷ when_whole read (λ r. cut_from m (at + r.size) (drop r.size t)) [])
    go ih (Ok None) q = refl
    go ih (Err f) q = refl
    go ih (Ok (Some r)) q =
        let s = within_tail t r q in
        let a : length (drop r.size t) ≤ n = omega (arith, length-drop r.size t) in
        let b : length (drop r.size t) ≤ m = omega (arith, length-drop r.size t) in
        ap (λ (fs : List Found). if eqb (length t) 0 then [] else found at (Ok (Some r)) ∷ fs) (ih (at + r.size) (drop r.size t) a b)

pub enough : (list : List ℕ) (n : ℕ) → length list ≤ n → cut_from n 0 list ≡ cut list
unfolding cut
enough list n h = bounds n (length list) 0 list h (omega arith)
