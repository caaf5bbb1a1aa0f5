-- What was said, taken apart. Assumes nothing.
use mathlib.Core.Path.{◌≡◌, ap}
use mathlib.Core.List.{List, [], ◌∷◌}
use Prim.Native.Nat.{ℕ}
use lib.ListN.{get_or}
use Rattle.words.specs.Said.{Said, done, refused}

values_of : Said → List ℕ
values_of (done values) = values
values_of (refused number values) = values

number_of : Said → ℕ
number_of (done values) = 0
number_of (refused number values) = number

pub same_values_lem : (v w : List ℕ) → done v ≡ done w → v ≡ w
unfolding values_of
same_values_lem v w e = ap values_of e

pub same_value : (m n : ℕ) → done (m ∷ []) ≡ done (n ∷ []) → m ≡ n
same_value m n e = ap (λ (values : List ℕ). get_or values 0 0) (same_values_lem (m ∷ []) (n ∷ []) e)

pub same_refusal : (m n : ℕ) (v w : List ℕ) → refused m v ≡ refused n w → m ≡ n
unfolding number_of
same_refusal m n v w e = ap number_of e
