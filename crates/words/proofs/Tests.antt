-- Both parts of a test that passed, or failed; the elements that pass a test; what holds of each element. Assumes nothing.
use Rattle.std.specs.Prelude.{if◌then◌else◌}
use mathlib.Core.Path.{◌≡◌, refl, sym, ◌∙◌, ap}
use mathlib.Core.Bool.{Bool, true, false, cond, not, ◌||◌, ◌&&◌}
use mathlib.Core.List.{List, [], ◌∷◌, ◌++◌, map}
use mathlib.Core.Logic.{◌⊎◌, inl, inr}
use Prim.Native.Nat.{ℕ, zero, suc, ◌+◌, ◌≤◌}
use native.Mathlib.Omega.{arith}
use borrow.Author.Tests.{ne_eqb}
use lib.Dec.{eqb}
use lib.ListN.{length, get_or, set, length-append}
use Rattle.words.specs.Test.{any_of, all_of, those}

pub differ : true ≡ false → ⊥
differ q = let z : ◌≡◌ {A = ℕ} 0 1 = cc in omega arith

pub and_left : (a b : Bool) → (a && b) ≡ true → a ≡ true
and_left true b t = refl
and_left false b t = t

pub and_right : (a b : Bool) → (a && b) ≡ true → b ≡ true
and_right true b t = t
and_right false true t = refl
and_right false false t = t

pub and_both : (a b : Bool) → a ≡ true → b ≡ true → (a && b) ≡ true
and_both a b p q = rw (p, q)

pub or_one : (a b : Bool) → (a || b) ≡ true → (a ≡ true) ⊎ (b ≡ true)
or_one true b t = inl refl
or_one false b t = inr t

pub one_or : (a b : Bool) → (a ≡ true) ⊎ (b ≡ true) → (a || b) ≡ true
one_or a b (inl p) = rw p
one_or true b (inr q) = refl
one_or false b (inr q) = q

-- two tests of which each passes where the other does
pub same_test : (a b : Bool) → (a ≡ true → b ≡ true) → (b ≡ true → a ≡ true) → a ≡ b
same_test true b f g = sym (f refl)
same_test false true f g = g refl
same_test false false f g = refl

pub fails : (b : Bool) → (b ≡ true → ⊥) → b ≡ false
fails true h = absurd (h refl)
fails false h = refl

pub or_left : (a b : Bool) → (a || b) ≡ false → a ≡ false
or_left true b t = t
or_left false b t = refl

pub or_right : (a b : Bool) → (a || b) ≡ false → b ≡ false
or_right true b t = absurd (differ t)
or_right false b t = t

pub map_append : {A B : Type 0} (f : A → B) (xs ys : List A) → map f (xs ++ ys) ≡ map f xs ++ map f ys
map_append f [] ys = refl
map_append {B = B} f (x ∷ xs) ys = ap (λ (zs : List B). f x ∷ zs) (map_append f xs ys)

module _ {A : Type 0} (test : A → Bool) where
  pub those_append : (xs ys : List A) → those test (xs ++ ys) ≡ those test xs ++ those test ys
  unfolding those
  those_append [] ys = refl
  those_append (x ∷ xs) ys = go (test x) (those_append xs ys)
    where
      go : (b : Bool) → those test (xs ++ ys) ≡ those test xs ++ those test ys
          → cond b (x ∷ those test (xs ++ ys)) (those test (xs ++ ys)) ≡ cond b (x ∷ those test xs) (those test xs) ++ those test ys
      go true ih = ap (λ (zs : List A). x ∷ zs) ih
      go false ih = ih

  -- one element more
  pub counted_more : (xs : List A) (x : A)
      → length (those test (xs ++ (x ∷ []))) ≡ (if test x then length (those test xs) + 1 else length (those test xs))
  unfolding those
  counted_more xs x = ap length (those_append xs (x ∷ [])) ∙ length-append (those test xs) (cond (test x) (x ∷ []) []) ∙ go (test x)
    where
      go : (b : Bool) → length (those test xs) + length (cond b (x ∷ []) []) ≡ (if b then length (those test xs) + 1 else length (those test xs))
      go true = refl
      go false = omega arith

-- a property of each element
module _ {A : Type 0} (P : A → Type 0) where
  unfoldable pub Each : List A → Type 0
  Each [] = Unit {0}
  Each (x ∷ xs) = P x × Each xs

  pub those_each : (test : A → Bool) (xs : List A) → Each xs → Each (those test xs)
  unfolding Each those
  those_each test [] e = tt
  those_each test (x ∷ xs) e = go (test x) (those_each test xs e.1)
    where
      go : (b : Bool) → Each (those test xs) → Each (cond b (x ∷ those test xs) (those test xs))
      go true rest = (e.0, rest)
      go false rest = rest

  pub each_append : (xs ys : List A) → Each xs → Each ys → Each (xs ++ ys)
  unfolding Each
  each_append [] ys e f = f
  each_append (x ∷ xs) ys e f = (e.0, each_append xs ys e.1 f)

  pub each_set : (xs : List A) (i : ℕ) (x : A) → Each xs → P x → Each (set xs i x)
  unfolding Each
  each_set [] i x e p = tt
  each_set (y ∷ ys) zero x e p = (p, e.1)
  each_set (y ∷ ys) (suc i) x e p = (e.0, each_set ys i x e.1 p)

  -- at any place, where it holds of what stands for none
  pub each_at : (xs : List A) (d : A) → Each xs → P d → (i : ℕ) → P (get_or xs i d)
  unfolding Each
  each_at [] d e p i = p
  each_at (x ∷ xs) d e p zero = e.0
  each_at (x ∷ xs) d e p (suc i) = each_at xs d e.1 p i

-- what follows for each element, from one property or from two
pub each_both : {A : Type 0} {P Q R : A → Type 0} → ((x : A) → P x → Q x → R x) → (xs : List A) → Each P xs → Each Q xs → Each R xs
unfolding Each
each_both so [] e f = tt
each_both so (x ∷ xs) e f = (so x e.0 f.0, each_both so xs e.1 f.1)

pub each_so : {A : Type 0} {P Q : A → Type 0} → ((x : A) → P x → Q x) → (xs : List A) → Each P xs → Each Q xs
each_so so xs e = each_both (λ x p q. so x p) xs e e

pub each_map : {A : Type 0} (P : A → Type 0) (f : A → A) → ((x : A) → P x → P (f x)) → (xs : List A) → Each P xs → Each P (map f xs)
unfolding Each
each_map P f so [] e = tt
each_map P f so (x ∷ xs) e = (so x e.0, each_map P f so xs e.1)

module _ {A : Type 0} (test : A → Bool) where
  -- all pass, or none does
  pub those_all : (xs : List A) → Each (λ x. test x ≡ true) xs → those test xs ≡ xs
  unfolding Each those
  those_all [] e = refl
  those_all (x ∷ xs) e = rw e.0 (ap (λ (zs : List A). x ∷ zs) (those_all xs e.1))

  pub those_none : (xs : List A) → Each (λ x. test x ≡ false) xs → those test xs ≡ []
  unfolding Each those
  those_none [] e = refl
  those_none (x ∷ xs) e = rw e.0 (those_none xs e.1)

  pub any_none : (xs : List A) → Each (λ x. test x ≡ false) xs → any_of test xs ≡ false
  unfolding Each any_of
  any_none [] e = refl
  any_none (x ∷ xs) e = rw e.0 (any_none xs e.1)

  pub none_any : (xs : List A) → any_of test xs ≡ false → Each (λ x. test x ≡ false) xs
  unfolding Each any_of
  none_any [] e = tt
  none_any (x ∷ xs) e = go (none_any xs) (test x) refl e
    where
      go : (any_of test xs ≡ false → Each (λ x. test x ≡ false) xs) → (b : Bool) → test x ≡ b → cond b true (any_of test xs) ≡ false
          → (test x ≡ false) × Each (λ x. test x ≡ false) xs
      go later true q e = absurd (differ e)
      go later false q e = (q, later e)

  pub those_few : (xs : List A) → length (those test xs) ≤ length xs
  unfolding those
  those_few [] = omega arith
  those_few (x ∷ xs) = go (test x) (those_few xs)
    where
      go : (b : Bool) → length (those test xs) ≤ length xs → length (cond b (x ∷ those test xs) (those test xs)) ≤ suc (length xs)
      go true h = omega arith
      go false h = omega arith

  -- some pass where those that do are not none
  pub any_those : (xs : List A) → any_of test xs ≡ not (eqb (length (those test xs)) 0)
  unfolding any_of those
  any_those [] = refl
  any_those (x ∷ xs) = go (test x) (any_those xs)
    where
      go : (b : Bool) → any_of test xs ≡ not (eqb (length (those test xs)) 0)
          → cond b true (any_of test xs) ≡ not (eqb (length (cond b (x ∷ those test xs) (those test xs))) 0)
      go true ih = rw (ne_eqb (suc (length (those test xs))) 0 (λ e. omega arith)) refl
      go false ih = ih

  pub any_append : (xs ys : List A) → any_of test (xs ++ ys) ≡ (any_of test xs || any_of test ys)
  unfolding any_of
  any_append [] ys = refl
  any_append (x ∷ xs) ys = go (test x) (any_append xs ys)
    where
      go : (b : Bool) → any_of test (xs ++ ys) ≡ (any_of test xs || any_of test ys)
          → cond b true (any_of test (xs ++ ys)) ≡ (cond b true (any_of test xs) || any_of test ys)
      go true ih = refl
      go false ih = ih

  pub all_append : (xs ys : List A) → all_of test (xs ++ ys) ≡ (all_of test xs && all_of test ys)
  unfolding all_of
  all_append [] ys = refl
  all_append (x ∷ xs) ys = go (test x) (all_append xs ys)
    where
      go : (b : Bool) → all_of test (xs ++ ys) ≡ (all_of test xs && all_of test ys)
          → cond b (all_of test (xs ++ ys)) false ≡ (cond b (all_of test xs) false && all_of test ys)
      go true ih = ih
      go false ih = refl

  pub all_each : (xs : List A) → all_of test xs ≡ true → Each (λ x. test x ≡ true) xs
  unfolding Each all_of
  all_each [] e = tt
  all_each (x ∷ xs) e = go (all_each xs) (test x) refl e
    where
      go : (all_of test xs ≡ true → Each (λ x. test x ≡ true) xs) → (b : Bool) → test x ≡ b → cond b (all_of test xs) false ≡ true
          → (test x ≡ true) × Each (λ x. test x ≡ true) xs
      go later true q e = (q, later e)
      go later false q e = absurd (differ (sym e))

  pub each_all : (xs : List A) → Each (λ x. test x ≡ true) xs → all_of test xs ≡ true
  unfolding Each all_of
  each_all [] e = refl
  each_all (x ∷ xs) e = rw e.0 (each_all xs e.1)

  pub those_pass : (xs : List A) → Each (λ x. test x ≡ true) (those test xs)
  unfolding Each those
  those_pass [] = tt
  those_pass (x ∷ xs) = go (test x) refl (those_pass xs)
    where
      go : (b : Bool) → test x ≡ b → Each (λ x. test x ≡ true) (those test xs) → Each (λ x. test x ≡ true) (cond b (x ∷ those test xs) (those test xs))
      go true q rest = (q, rest)
      go false q rest = rest

-- two tests that agree on each element
pub any_alike : {A : Type 0} (f g : A → Bool) (xs : List A) → Each (λ x. f x ≡ g x) xs → any_of f xs ≡ any_of g xs
unfolding Each any_of
any_alike f g [] e = refl
any_alike f g (x ∷ xs) e = rw (e.0, any_alike f g xs e.1) refl

pub any_map : {A B : Type 0} (test : B → Bool) (f : A → B) (xs : List A) → any_of test (map f xs) ≡ any_of (λ x. test (f x)) xs
unfolding any_of
any_map test f [] = refl
any_map test f (x ∷ xs) = rw (any_map test f xs) refl
