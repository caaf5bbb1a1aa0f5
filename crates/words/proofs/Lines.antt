-- A table of cases holds if one computed test passes. Assumes nothing.
use mathlib.Core.Path.{◌≡◌, refl, ap}
use mathlib.Core.Bool.{Bool, true, false, ◌&&◌}
use mathlib.Core.List.{List, [], ◌∷◌, ◌++◌}
use Prim.Native.Nat.{ℕ}
use native.Mathlib.Omega.{arith}
use borrow.Author.Tests.{eqb-true}
use lib.Dec.{eqb}
use Rattle.words.specs.Said.{Said, done, refused}
use Rattle.words.specs.Lines.{Line, Hold}
use Rattle.words.proofs.Tests.{and_left, and_right}

unfoldable pub same_values : List ℕ → List ℕ → Bool
same_values [] [] = true
same_values [] (y ∷ ys) = false
same_values (x ∷ xs) [] = false
same_values (x ∷ xs) (y ∷ ys) = eqb x y && same_values xs ys

unfoldable pub same_said : Said → Said → Bool
same_said (done v) (done w) = same_values v w
same_said (done v) (refused n w) = false
same_said (refused m v) (done w) = false
same_said (refused m v) (refused n w) = eqb m n && same_values v w

unfoldable pub all_hold : List Line → Bool
all_hold [] = true
all_hold (l ∷ ls) = same_said l.got l.want && all_hold ls

values : (v w : List ℕ) → same_values v w ≡ true → v ≡ w
unfolding same_values
values [] [] t = refl
values [] (y ∷ ys) t = let z : ◌≡◌ {A = ℕ} 0 1 = cc in absurd (omega arith)
values (x ∷ xs) [] t = let z : ◌≡◌ {A = ℕ} 0 1 = cc in absurd (omega arith)
values (x ∷ xs) (y ∷ ys) t =
    let p = eqb-true x y (and_left (eqb x y) (same_values xs ys) t) in
    let q = values xs ys (and_right (eqb x y) (same_values xs ys) t) in
    cc

said : (a b : Said) → same_said a b ≡ true → a ≡ b
unfolding same_said
said (done v) (done w) t = ap done (values v w t)
said (done v) (refused n w) t = let z : ◌≡◌ {A = ℕ} 0 1 = cc in absurd (omega arith)
said (refused m v) (done w) t = let z : ◌≡◌ {A = ℕ} 0 1 = cc in absurd (omega arith)
said (refused m v) (refused n w) t =
    let p = eqb-true m n (and_left (eqb m n) (same_values v w) t) in
    let q = values v w (and_right (eqb m n) (same_values v w) t) in
    cc

pub by_test : (ls : List Line) → all_hold ls ≡ true → Hold ls
unfolding all_hold Hold
by_test [] t = tt
by_test (l ∷ ls) t =
    (said l.got l.want (and_left (same_said l.got l.want) (all_hold ls) t), by_test ls (and_right (same_said l.got l.want) (all_hold ls) t))

-- two tables that hold are one that holds
pub together : (ls ms : List Line) → Hold ls → Hold ms → Hold (ls ++ ms)
unfolding Hold
together [] ms h k = k
together (l ∷ ls) ms h k = (h.0, together ls ms h.1 k)
