-- A list in any order has the same entries, and each number once if the list has. Assumes nothing.
use mathlib.Core.Path.{◌≡◌, refl, sym, ◌∙◌, subst}
use mathlib.Core.List.Memᴰ
use mathlib.Core.List.{List, [], ◌∷◌, ◌++◌, Memᴰ}
use mathlib.Core.Logic.{◌≢◌, ◌⊎◌, inl, inr}
use Rattle.histories.specs.Callback.{Entry, Reordered}

-- no two of the entries name one number
unfoldable pub Once : List Entry → Type 0
Once [] = Unit {0}
Once (e ∷ es) = ((f : Entry) → Memᴰ f es → f.number ≢ e.number) × Once es

module _ (e : Entry) (back : List Entry) where
  middle : (front : List Entry) → Memᴰ e (front ++ e ∷ back)
  middle [] = Memᴰ.head refl
  middle (g ∷ front) = Memᴰ.tail (middle front)

  with_one : (f : Entry) (front : List Entry) → Memᴰ f (front ++ back) → Memᴰ f (front ++ e ∷ back)
  with_one f [] m = Memᴰ.tail m
  with_one f (g ∷ front) m = go (Memᴰ.cases_cons m) (with_one f front)
    where
      go : (f ≡ g) ⊎ Memᴰ f (front ++ back) → (Memᴰ f (front ++ back) → Memᴰ f (front ++ e ∷ back)) → Memᴰ f (g ∷ (front ++ e ∷ back))
      go (inl p) rest = Memᴰ.head p
      go (inr p) rest = Memᴰ.tail (rest p)

  without_one : (f : Entry) (front : List Entry) → Memᴰ f (front ++ e ∷ back) → (f ≡ e) ⊎ Memᴰ f (front ++ back)
  without_one f [] m = Memᴰ.cases_cons m
  without_one f (g ∷ front) m = go (Memᴰ.cases_cons m) (without_one f front)
    where
      later : (f ≡ e) ⊎ Memᴰ f (front ++ back) → (f ≡ e) ⊎ Memᴰ f (g ∷ (front ++ back))
      later (inl p) = inl p
      later (inr p) = inr (Memᴰ.tail p)

      go : (f ≡ g) ⊎ Memᴰ f (front ++ e ∷ back) → (Memᴰ f (front ++ e ∷ back) → (f ≡ e) ⊎ Memᴰ f (front ++ back))
          → (f ≡ e) ⊎ Memᴰ f (g ∷ (front ++ back))
      go (inl p) rest = inr (Memᴰ.head p)
      go (inr p) rest = later (rest p)

  -- without an entry each number stands once still, and its own does not
  once_others : (front : List Entry) → Once (front ++ e ∷ back) → Once (front ++ back) × ((f : Entry) → Memᴰ f (front ++ back) → f.number ≢ e.number)
  unfolding Once
  once_others [] o = (o.1, o.0)
  once_others (g ∷ front) o = let r = once_others front o.1 in ((λ f m. o.0 f (with_one f front m), r.0), λ f m. go f (Memᴰ.cases_cons m) r.1)
    where
      go : (f : Entry) → (f ≡ g) ⊎ Memᴰ f (front ++ back) → ((h : Entry) → Memᴰ h (front ++ back) → h.number ≢ e.number) → f.number ≢ e.number
      go f (inl p) rest z = o.0 e (middle front) (sym z ∙ (λ k. (p k).number))
      go f (inr p) rest z = rest f p z

pub from_reordered : (es list : List Entry) → Reordered es list → (f : Entry) → Memᴰ f es → Memᴰ f list
unfolding Reordered
from_reordered [] list o f m = absurd (Memᴰ.not-nil m)
from_reordered (e ∷ es) list o f m = rw o.2 (go (Memᴰ.cases_cons m) (from_reordered es (o.0 ++ o.1) o.3 f))
  where
    go : (f ≡ e) ⊎ Memᴰ f es → (Memᴰ f es → Memᴰ f (o.0 ++ o.1)) → Memᴰ f (o.0 ++ e ∷ o.1)
    go (inl p) rest = subst (λ (x : Entry). Memᴰ x (o.0 ++ e ∷ o.1)) (sym p) (middle e o.1 o.0)
    go (inr p) rest = with_one e o.1 f o.0 (rest p)

pub to_reordered : (es list : List Entry) → Reordered es list → (f : Entry) → Memᴰ f list → Memᴰ f es
unfolding Reordered
to_reordered [] list o f m = absurd (Memᴰ.not-nil (rw o at m))
to_reordered (e ∷ es) list o f m = go (without_one e o.1 f o.0 (rw o.2 at m)) (to_reordered es (o.0 ++ o.1) o.3 f)
  where
    go : (f ≡ e) ⊎ Memᴰ f (o.0 ++ o.1) → (Memᴰ f (o.0 ++ o.1) → Memᴰ f es) → Memᴰ f (e ∷ es)
    go (inl p) rest = Memᴰ.head p
    go (inr p) rest = Memᴰ.tail (rest p)

pub once_reordered : (es list : List Entry) → Reordered es list → Once list → Once es
unfolding Reordered Once
once_reordered [] list o h = tt
once_reordered (e ∷ es) list o h =
    let r = once_others e o.1 o.0 (rw o.2 at h) in
    (λ f m. r.1 f (from_reordered es (o.0 ++ o.1) o.3 f m), once_reordered es (o.0 ++ o.1) o.3 r.0)
