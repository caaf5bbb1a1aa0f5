-- The place of the first that passes a test, where one does. Assumes nothing.
use Rattle.std.specs.Prelude.{if◌then◌else◌, Option, None, Some, position}
use Rattle.std.specs.List.{position_or_len}
use Rattle.std.specs.Option.{option_or}
use mathlib.Core.Path.{◌≡◌, refl, sym, ◌∙◌, ap}
use mathlib.Core.Bool.{Bool, true, false, cond, not}
use mathlib.Core.List.{List, [], ◌∷◌, ◌++◌}
use Prim.Native.Nat.{ℕ, suc, ◌+◌, ◌≤◌, ◌<◌}
use native.Mathlib.Omega.{arith}
use borrow.Author.Tests.{ltb-true, ltb-false, lt-ltb, le-ltb, eqb-true, eqb-false}
use lib.Dec.{eqb, ltb}
use lib.ListN.{length, length-append}
use Rattle.words.specs.Test.{any_of, place_of}
use Rattle.words.proofs.Tests.{differ}
use Rattle.words.proofs.Found.{place_within, place_more, place_here, any_placed}

-- a place p among n
unfoldable among : ℕ → ℕ → Option ℕ
among p n = if ltb p n then Some p else None

-- one more
among_more : (p n : ℕ) → p ≤ n → (passes : Bool) → among (if passes then p else if eqb p n then p + 1 else p) (n + 1) ≡ (if passes then option_or (among p n) (Some n) else among p n)
unfolding among
among_more p n h passes = go passes (ltb p n) refl (eqb p n) refl
  where
    go : (passes : Bool) → (less : Bool) → ltb p n ≡ less → (same : Bool) → eqb p n ≡ same
        → among (if passes then p else if eqb p n then p + 1 else p) (n + 1) ≡ (if passes then option_or (among p n) (Some n) else among p n)
    go true true q b r = rw (q, lt-ltb p (n + 1) (omega (arith, ltb-true p n q))) refl
    go true false q b r = let e : p ≡ n = omega (arith, h, ltb-false p n q) in rw (q, lt-ltb p (n + 1) (omega (arith, h))) (ap Some e)
    go false true q true r = absurd (omega (arith, ltb-true p n q, eqb-true p n r))
    go false true q false r = rw (r, q, lt-ltb p (n + 1) (omega (arith, ltb-true p n q))) refl
    go false false q true r = rw (r, q, le-ltb (p + 1) (n + 1) (omega (arith, eqb-true p n r))) refl
    go false false q false r = absurd (eqb-false p n r (omega (arith, h, ltb-false p n q)))

unfoldable value : Option ℕ → ℕ
value None = 0
value (Some m) = m

unfoldable there : Option ℕ → Bool
there None = false
there (Some m) = true

among_some : (p n i : ℕ) → among p n ≡ Some i → (p ≡ i) × (p < n)
unfolding among value there
among_some p n i = go (ltb p n) refl
  where
    go : (less : Bool) → ltb p n ≡ less → (if less then Some p else None) ≡ Some i → (p ≡ i) × (p < n)
    go true q e = (ap value e, ltb-true p n q)
    go false q e = absurd (differ (sym (ap there e)))

among_none : (p n : ℕ) → among p n ≡ None → ltb p n ≡ false
unfolding among there
among_none p n = go (ltb p n) refl
  where
    go : (less : Bool) → ltb p n ≡ less → (if less then Some p else None) ≡ None → ltb p n ≡ false
    go true q e = absurd (differ (ap there e))
    go false q e = q

module _ {A : Type 0} (test : A → Bool) where
  same_place : (xs : List A) → place_of test xs ≡ position_or_len test xs
  unfolding place_of
  same_place [] = refl
  same_place (x ∷ xs) = go (test x) (same_place xs)
    where
      go : (b : Bool) → place_of test xs ≡ position_or_len test xs → cond b 0 (suc (place_of test xs)) ≡ cond (not b) (1 + position_or_len test xs) 0
      go true e = refl
      go false e = let s : suc (position_or_len test xs) ≡ 1 + position_or_len test xs = omega arith in ap suc e ∙ s

  position_among : (xs : List A) → position test xs ≡ among (place_of test xs) (length xs)
  unfolding among
  position_among xs = rw (same_place xs) refl

  pub position_more : (xs : List A) (x : A) → position test (xs ++ x ∷ []) ≡ (if test x then option_or (position test xs) (Some (length xs)) else position test xs)
  position_more xs x =
      position_among (xs ++ x ∷ [])
      ∙ rw (place_more test xs x, length-append xs (x ∷ []), position_among xs) (among_more (place_of test xs) (length xs) (place_within test xs) (test x))

  pub position_at : (xs : List A) {i : ℕ} → position test xs ≡ Some i → (i ≡ place_of test xs) × (i < length xs)
  position_at xs {i} e =
      let p = among_some (place_of test xs) (length xs) i (sym (position_among xs) ∙ e) in
      (sym p.0, omega (arith, p.0, p.1))

  pub position_some : (xs : List A) {i : ℕ} → position test xs ≡ Some i → any_of test xs ≡ true
  position_some xs e = let p = position_at xs e in any_placed test xs ∙ rw (← p.0) (lt-ltb _ (length xs) p.1)

  pub position_none : (xs : List A) → position test xs ≡ None → any_of test xs ≡ false
  position_none xs e = any_placed test xs ∙ among_none (place_of test xs) (length xs) (sym (position_among xs) ∙ e)

  -- none before it passes, and it does
  pub position_here : (xs ys : List A) (y : A) → position test xs ≡ None → test y ≡ true → position test (xs ++ y ∷ ys) ≡ Some (length xs)
  unfolding among
  position_here xs ys y e good =
      let n = ltb-false (place_of test xs) (length xs) (among_none (place_of test xs) (length xs) (sym (position_among xs) ∙ e)) in
      let last : place_of test xs ≡ length xs = omega (arith, n, place_within test xs) in
      let found = place_here test xs ys y last good in
      position_among (xs ++ y ∷ ys) ∙ rw (found, lt-ltb (length xs) (length (xs ++ y ∷ ys)) (omega (arith, length-append xs (y ∷ ys)))) refl
