-- What the other definitions are written with: tests over a list.
use Rattle.std.specs.Prelude.{Bool, true, false, cond, List, [], ◌∷◌, ℕ, suc}

module _ {A : Type 0} where
  -- some element passes a test
  unfoldable pub any_of : (A → Bool) → List A → Bool
  any_of test [] = false
  any_of test (x ∷ xs) = let rest = any_of test xs in cond (test x) true rest

  -- each element passes it
  unfoldable pub all_of : (A → Bool) → List A → Bool
  all_of test [] = true
  all_of test (x ∷ xs) = let rest = all_of test xs in cond (test x) rest false

  -- the elements that pass it
  unfoldable pub those : (A → Bool) → List A → List A
  those test [] = []
  those test (x ∷ xs) = let rest = those test xs in cond (test x) (x ∷ rest) rest

  -- the place of the first that passes it; their number where none does
  unfoldable pub place_of : (A → Bool) → List A → ℕ
  place_of test [] = 0
  place_of test (x ∷ xs) = let rest = place_of test xs in cond (test x) 0 (suc rest)
