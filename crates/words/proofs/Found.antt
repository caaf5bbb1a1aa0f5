-- The first element that passes a test, as a search finds it. Assumes nothing.
use Rattle.std.specs.Prelude.{if◌then◌else◌}
use mathlib.Core.Path.{◌≡◌, refl, sym, ◌∙◌, ap}
use mathlib.Core.Bool.{Bool, true, false, cond}
use mathlib.Core.List.{List, [], ◌∷◌, ◌++◌}
use Prim.Native.Nat.{ℕ, suc, ◌+◌, ◌≤◌, ◌<◌}
use native.Mathlib.Omega.{arith}
use borrow.Author.Tests.{ltb-true, ltb-false, lt-ltb, le-ltb, eqb-true, eqb-false, eq-eqb, ne_eqb}
use lib.Dec.{eqb, ltb}
use lib.ListN.{length, get_or}
use Rattle.words.specs.Test.{any_of, place_of}

less_suc : (m n : ℕ) → ltb m n ≡ ltb (suc m) (suc n)
less_suc m n = go (ltb m n) refl
  where
    go : (b : Bool) → ltb m n ≡ b → b ≡ ltb (suc m) (suc n)
    go true q = sym (lt-ltb (suc m) (suc n) (omega (arith, ltb-true m n q)))
    go false q = sym (le-ltb (suc m) (suc n) (omega (arith, ltb-false m n q)))

equal_suc : (m n : ℕ) → eqb m n ≡ eqb (suc m) (suc n)
equal_suc m n = go (eqb m n) refl
  where
    go : (b : Bool) → eqb m n ≡ b → b ≡ eqb (suc m) (suc n)
    go true q = sym (eq-eqb (suc m) (suc n) (ap suc (eqb-true m n q)))
    go false q = sym (ne_eqb (suc m) (suc n) (λ e. eqb-false m n q (omega arith)))

module _ {A : Type 0} (test : A → Bool) where
  pub place_within : (xs : List A) → place_of test xs ≤ length xs
  unfolding place_of
  place_within [] = omega arith
  place_within (x ∷ xs) = go (test x) (place_within xs)
    where
      go : (b : Bool) → place_of test xs ≤ length xs → cond b 0 (suc (place_of test xs)) ≤ suc (length xs)
      go true h = omega arith
      go false h = omega arith

  -- there is one exactly when its place is among them
  pub any_placed : (xs : List A) → any_of test xs ≡ ltb (place_of test xs) (length xs)
  unfolding any_of place_of
  any_placed [] = refl
  any_placed (x ∷ xs) = go (test x) (any_placed xs)
    where
      go : (b : Bool) → any_of test xs ≡ ltb (place_of test xs) (length xs)
          → cond b true (any_of test xs) ≡ ltb (cond b 0 (suc (place_of test xs))) (suc (length xs))
      go true ih = sym (lt-ltb 0 (suc (length xs)) (omega arith))
      go false ih = ih ∙ less_suc (place_of test xs) (length xs)

  -- one element more
  pub place_more : (xs : List A) (x : A)
      → place_of test (xs ++ (x ∷ [])) ≡ (if test x then place_of test xs else if eqb (place_of test xs) (length xs) then place_of test xs + 1 else place_of test xs)
  unfolding place_of
  place_more [] x = go (test x)
    where
      go : (b : Bool) → ◌≡◌ {A = ℕ} (cond b 0 1) (if b then 0 else 1)
      go true = refl
      go false = refl
  place_more (y ∷ ys) x = go (test y) (test x) (place_more ys x)
    where
      step : (p n : ℕ) (t : Bool) → t ≡ eqb (suc p) (suc n) → suc (if t then p + 1 else p) ≡ (if eqb (suc p) (suc n) then suc p + 1 else suc p)
      step p n true q = rw (← q) (omega arith)
      step p n false q = rw (← q) refl

      go : (s t : Bool) → place_of test (ys ++ (x ∷ [])) ≡ (if t then place_of test ys else if eqb (place_of test ys) (length ys) then place_of test ys + 1 else place_of test ys)
          → cond s 0 (suc (place_of test (ys ++ (x ∷ []))))
          ≡ (if t then cond s 0 (suc (place_of test ys)) else if eqb (cond s 0 (suc (place_of test ys))) (suc (length ys)) then cond s 0 (suc (place_of test ys)) + 1 else cond s 0 (suc (place_of test ys)))
      go true true ih = refl
      go true false ih = rw (ne_eqb 0 (suc (length ys)) (λ e. omega arith)) refl
      go false true ih = ap suc ih
      go false false ih = ap suc ih ∙ step (place_of test ys) (length ys) (eqb (place_of test ys) (length ys)) (equal_suc (place_of test ys) (length ys))

  -- none before it passes, and it does
  pub place_here : (xs ys : List A) (y : A) → place_of test xs ≡ length xs → test y ≡ true → place_of test (xs ++ y ∷ ys) ≡ length xs
  unfolding place_of
  place_here [] ys y p q = rw q refl
  place_here (x ∷ xs) ys y p q = go (test x) refl p (place_here xs ys y)
    where
      go : (b : Bool) → test x ≡ b → cond b 0 (suc (place_of test xs)) ≡ suc (length xs)
          → (place_of test xs ≡ length xs → test y ≡ true → place_of test (xs ++ y ∷ ys) ≡ length xs)
          → cond b 0 (suc (place_of test (xs ++ y ∷ ys))) ≡ suc (length xs)
      go true t p later = absurd (omega arith)
      go false t p later = ap suc (later (omega arith) q)

  -- the element at its place passes
  pub passes_there : (xs : List A) (d : A) → place_of test xs < length xs → test (get_or xs (place_of test xs) d) ≡ true
  unfolding place_of
  passes_there [] d h = absurd (omega arith)
  passes_there (x ∷ xs) d h = go (test x) refl h (passes_there xs d)
    where
      go : (b : Bool) → test x ≡ b → cond b 0 (suc (place_of test xs)) < suc (length xs) → (place_of test xs < length xs → test (get_or xs (place_of test xs) d) ≡ true)
          → test (get_or (x ∷ xs) (cond b 0 (suc (place_of test xs))) d) ≡ true
      go true q h later = q
      go false q h later = later (omega arith)
