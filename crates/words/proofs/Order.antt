-- Comparing numbers is comparing their bytes. Assumes nothing.
use mathlib.Core.Path.{◌≡◌, refl, sym, ◌∙◌, ap}
use mathlib.Core.Bool.{Bool, true, false, ◌||◌, ◌&&◌, and-false, or-false}
use mathlib.Core.List.{List, [], ◌∷◌, ◌++◌, append_assoc}
use Prim.Native.Nat.{ℕ, suc, ◌+◌, ◌*◌, ◌/◌, ◌%◌, ◌^◌, ◌≤◌, ◌<◌}
use native.Mathlib.Nat.{le_of_eq}
use native.Mathlib.Omega.{arith}
use borrow.Author.Tests.{ltb-true, ltb-false, eqb-true, eqb-false, lt-ltb, le-ltb, le-leb, eq-eqb, ne_eqb}
use lib.Arith.{digits_lt, digits_div, digits_mod}
use lib.Dec.{ltb, eqb}
use lib.ListN.{length, take, drop}
use lib.Seq.{take_at, drop_at}
use Rattle.words.specs.Number.{Bytes, number_from, number, part, within, number_at, less, before}
use Rattle.words.specs.Realm.{realm_at, same_realm, less_realm}
use Rattle.words.specs.declared.realm.Realm.{Realm}
use Rattle.words.proofs.Tests.{and_left, and_right, differ}
use Rattle.words.proofs.Digits.{first, bounded, part_length, part_bytes, part_add}

-- `less` by what is known of its numbers
less_lt : (a b : ℕ) (r : Bool) → a < b → less a b r ≡ true
less_lt a b r h = simp (lt-ltb a b h)

less_gt : (a b : ℕ) (r : Bool) → b < a → less a b r ≡ false
less_gt a b r h = let n : a ≡ b → ⊥ = λ e. omega arith in let g : b ≤ a = omega arith in simp (le-ltb a b g, ne_eqb a b n)

pub apart : (a b : ℕ) (lower : Bool) → (a ≡ b → ⊥) → less a b lower ≡ ltb a b
apart a b lower n = simp (ne_eqb a b n, or-false)

pub tied : (a b : ℕ) (lower : Bool) → a ≡ b → less a b lower ≡ lower
tied a b lower e = simp (eq-eqb a b e, le-ltb a b (le_of_eq (sym e)))

pub less_last : (a b : ℕ) → less a b false ≡ ltb a b
less_last a b = simp (and-false, or-false)

-- `less` as an order: by what the lower places say where the upper ones are equal
pub less_trans : (a b c : ℕ) (x y z : Bool) → less a b x ≡ true → less b c y ≡ true → (x ≡ true → y ≡ true → z ≡ true) → less a c z ≡ true
less_trans a b c x y z p q lower = go (ltb a b) (ltb b c) refl refl p q
  where
    go : (s t : Bool) → ltb a b ≡ s → ltb b c ≡ t → (s || (eqb a b && x)) ≡ true → (t || (eqb b c && y)) ≡ true → less a c z ≡ true
    go true true h k p q = less_lt a c z (omega (arith, ltb-true a b h, ltb-true b c k))
    go true false h k p q = less_lt a c z (omega (arith, ltb-true a b h, eqb-true b c (and_left (eqb b c) y q)))
    go false true h k p q = less_lt a c z (omega (arith, ltb-true b c k, eqb-true a b (and_left (eqb a b) x p)))
    go false false h k p q =
        tied a c z (eqb-true a b (and_left (eqb a b) x p) ∙ eqb-true b c (and_left (eqb b c) y q))
        ∙ lower (and_right (eqb a b) x p) (and_right (eqb b c) y q)

pub less_asym : (a b : ℕ) (x y : Bool) → less a b x ≡ true → (x ≡ true → y ≡ false) → less b a y ≡ false
less_asym a b x y p lower = go (ltb a b) refl p
  where
    go : (s : Bool) → ltb a b ≡ s → (s || (eqb a b && x)) ≡ true → less b a y ≡ false
    go true h p = less_gt b a y (ltb-true a b h)
    go false h p = tied b a y (sym (eqb-true a b (and_left (eqb a b) x p))) ∙ lower (and_right (eqb a b) x p)

pub less_total : (a b : ℕ) (x y : Bool) → less a b x ≡ false → less b a y ≡ false → (a ≡ b) × (x ≡ false) × (y ≡ false)
less_total a b x y p q = go (ltb a b) (ltb b a) refl refl
  where
    go : (s t : Bool) → ltb a b ≡ s → ltb b a ≡ t → (a ≡ b) × (x ≡ false) × (y ≡ false)
    go true t h k = let z : true ≡ false = sym (less_lt a b x (ltb-true a b h)) ∙ p in absurd (differ z)
    go false true h k = let z : true ≡ false = sym (less_lt b a y (ltb-true b a k)) ∙ q in absurd (differ z)
    go false false h k =
        let e : a ≡ b = omega (arith, ltb-false a b h, ltb-false b a k) in (e, sym (tied a b x e) ∙ p, sym (tied b a y (sym e)) ∙ q)

-- two pairs that are ordered alike
alike : (a b c d : ℕ) (r : Bool) → (a < b → c < d) → (a ≡ b → c ≡ d) → (b < a → d < c) → less c d r ≡ less a b r
alike a b c d r f e g = go (ltb a b) (eqb a b) refl refl
  where
    go : (s t : Bool) → ltb a b ≡ s → eqb a b ≡ t → less c d r ≡ less a b r
    go true t h k = let l = ltb-true a b h in less_lt c d r (f l) ∙ sym (less_lt a b r l)
    go false true h k = let q = eqb-true a b k in rw (← e q, ← q) (tied c c r refl ∙ sym (tied a a r refl))
    go false false h k =
        let l : b < a = omega (arith, ltb-false a b h, eqb-false a b k) in
        less_gt c d r (g l) ∙ sym (less_gt a b r l)

-- two numbers of one digit more
digit : (p x y a b : ℕ) (r : Bool) → a < p → b < p → less (x * p + a) (y * p + b) r ≡ less x y (less a b r)
digit p x y a b r ha hb = go (ltb x y) (eqb x y) refl refl
  where
    go : (s t : Bool) → ltb x y ≡ s → eqb x y ≡ t → less (x * p + a) (y * p + b) r ≡ less x y (less a b r)
    go true t h g =
        let l : x < y = ltb-true x y h in
        less_lt (x * p + a) (y * p + b) r (omega (arith, digits_lt l ha)) ∙ sym (less_lt x y (less a b r) l)
    go false true h g =
        rw (← eqb-true x y g)
        (alike a b (x * p + a) (x * p + b) r (λ h. omega arith) (λ h. omega arith) (λ h. omega arith) ∙ sym (tied x x (less a b r) refl))
    go false false h g =
        let l : y < x = omega (arith, ltb-false x y h, eqb-false x y g) in
        less_gt (x * p + a) (y * p + b) r (omega (arith, digits_lt l hb)) ∙ sym (less_gt x y (less a b r) l)

-- bytes that are compared first are compared as one number
pub numbers : (xs ys us vs : List ℕ) → length xs ≡ length ys → Bytes xs → Bytes ys
    → before (xs ++ us) (ys ++ vs) ≡ less (number xs) (number ys) (before us vs)
unfolding before number_from
numbers [] [] us vs e h k = sym (tied 0 0 (before us vs) refl)
numbers [] (y ∷ ys) us vs e h k = absurd (omega arith)
numbers (x ∷ xs) [] us vs e h k = absurd (omega arith)
numbers (x ∷ xs) (y ∷ ys) us vs e h k =
    let q : length xs ≡ length ys = omega arith in
    let ih = numbers xs ys us vs q (λ i. h (suc i)) (λ i. k (suc i)) in
    rw (first x xs, first y ys, ih, ← q)
    (sym (digit (256 ^ length xs) x y (number xs) (number ys) (before us vs) (bounded xs (λ i. h (suc i))) (rw q (bounded ys (λ i. k (suc i))))))

-- bytes are told by their number
pub spelled : (xs ys : List ℕ) → length xs ≡ length ys → Bytes xs → Bytes ys → number xs ≡ number ys → xs ≡ ys
unfolding number_from
spelled [] [] e h k q = refl
spelled [] (y ∷ ys) e h k q = absurd (omega arith)
spelled (x ∷ xs) [] e h k q = absurd (omega arith)
spelled (x ∷ xs) (y ∷ ys) e h k q =
    let l : length xs ≡ length ys = omega arith in
    let bx = bounded xs (λ i. h (suc i)) in
    let by = rw (← l) at (bounded ys (λ i. k (suc i))) in
    let s : x * 256 ^ length xs + number xs ≡ y * 256 ^ length xs + number ys = sym (first x xs) ∙ q ∙ rw (← l) at (first y ys) in
    let d : x ≡ y = sym (digits_div x bx) ∙ ap (λ (n : ℕ). n / 256 ^ length xs) s ∙ digits_div y by in
    let m : number xs ≡ number ys = sym (digits_mod x bx) ∙ ap (λ (n : ℕ). n % 256 ^ length xs) s ∙ digits_mod y by in
    let r : xs ≡ ys = spelled xs ys l (λ i. h (suc i)) (λ i. k (suc i)) m in
    cc

-- the same part of two lists, compared as a number before what stands lower
module _ (t u : List ℕ) (ht : Bytes t) (hu : Bytes u) where
  pub parts : (m n : ℕ) (us vs : List ℕ) (r : Bool) → m + n ≤ length t → m + n ≤ length u → before us vs ≡ r
      → before (part m n t ++ us) (part m n u ++ vs) ≡ less (number (part m n t)) (number (part m n u)) r
  parts m n us vs r lt lu e =
      numbers (part m n t) (part m n u) us vs (part_length m n t lt ∙ sym (part_length m n u lu)) (part_bytes m n t ht) (part_bytes m n u hu)
      ∙ ap (λ (b : Bool). less (number (part m n t)) (number (part m n u)) b) e

both : (a b c d : ℕ) → (eqb a b && eqb c d) ≡ true → (a ≡ b) × (c ≡ d)
both a b c d q = (eqb-true a b (and_left (eqb a b) (eqb c d) q), eqb-true c d (and_right (eqb a b) (eqb c d) q))

-- a number, where its bytes are all there
pub number_at_lem : (width at : ℕ) (t : List ℕ) → at + width ≤ length t → number_at width at t ≡ number (part at width t)
unfolding number_at within
number_at_lem width at t h = simp (le-leb (at + width) (length t) h)

pub realm_at_lem : (at : ℕ) (t : List ℕ) → at + 16 ≤ length t → realm_at at t ≡ record { hi = number (part at 8 t); lo = number (part (at + 8) 8 t) }
unfolding realm_at within
realm_at_lem at t h = simp (le-leb (at + 16) (length t) h)

sixteen : (at : ℕ) (t us : List ℕ) → part at 16 t ++ us ≡ part at 8 t ++ (part (at + 8) 8 t ++ us)
sixteen at t us = rw (part_add at 8 8 t, append_assoc)

module _ (t u : List ℕ) (ht : Bytes t) (hu : Bytes u) where
  -- realms that are compared first are compared as their sixteen bytes
  pub realms : (at : ℕ) (us vs : List ℕ) (r : Bool) → at + 16 ≤ length t → at + 16 ≤ length u → before us vs ≡ r
      → before (part at 16 t ++ us) (part at 16 u ++ vs) ≡ less_realm (realm_at at t) (realm_at at u) r
  unfolding less_realm
  realms at us vs r lt lu e =
      rw (sixteen at t us, sixteen at u vs, realm_at_lem at t lt, realm_at_lem at u lu)
      (parts t u ht hu at 8 _ _ _ (omega arith) (omega arith) (parts t u ht hu (at + 8) 8 us vs r (omega arith) (omega arith) e))

  eight : (m n : ℕ) → m + 8 ≤ length t → n + 8 ≤ length u → number (part m 8 t) ≡ number (part n 8 u) → part m 8 t ≡ part n 8 u
  eight m n lt lu =
      spelled (part m 8 t) (part n 8 u) (part_length m 8 t lt ∙ sym (part_length n 8 u lu)) (part_bytes m 8 t ht) (part_bytes n 8 u hu)

  -- two realms are the same exactly when their sixteen bytes are
  module _ (m n : ℕ) (lt : m + 16 ≤ length t) (lu : n + 16 ≤ length u) where
    pub same_bytes : same_realm (realm_at m t) (realm_at n u) ≡ true → part m 16 t ≡ part n 16 u
    unfolding same_realm
    same_bytes q =
        let s = rw (realm_at_lem m t lt, realm_at_lem n u lu) at q in
        let e = both (number (part m 8 t)) (number (part n 8 u)) (number (part (m + 8) 8 t)) (number (part (n + 8) 8 u)) s in
        rw (part_add m 8 8 t, part_add n 8 8 u, eight m n (omega arith) (omega arith) e.0, eight (m + 8) (n + 8) (omega arith) (omega arith) e.1)

    pub same_realms : part m 16 t ≡ part n 16 u → same_realm (realm_at m t) (realm_at n u) ≡ true
    unfolding same_realm
    same_realms q =
        let a = part_length m 8 t (omega arith) in
        let b = part_length n 8 u (omega arith) in
        let s = sym (part_add m 8 8 t) ∙ q ∙ part_add n 8 8 u in
        let hi : part m 8 t ≡ part n 8 u = sym (take_at (part m 8 t) (part (m + 8) 8 t) 8 a) ∙ ap (take 8) s ∙ take_at (part n 8 u) (part (n + 8) 8 u) 8 b in
        let lo : part (m + 8) 8 t ≡ part (n + 8) 8 u = sym (drop_at (part m 8 t) (part (m + 8) 8 t) 8 a) ∙ ap (drop 8) s ∙ drop_at (part n 8 u) (part (n + 8) 8 u) 8 b in
        rw (realm_at_lem m t lt, realm_at_lem n u lu, hi, lo, eq-eqb (number (part n 8 u)) (number (part n 8 u)) refl, eq-eqb (number (part (n + 8) 8 u)) (number (part (n + 8) 8 u)) refl)

equal_swapped : (a b : ℕ) → eqb a b ≡ eqb b a
equal_swapped a b = go (eqb a b) refl
  where
    go : (t : Bool) → eqb a b ≡ t → t ≡ eqb b a
    go true q = sym (eq-eqb b a (sym (eqb-true a b q)))
    go false q = sym (ne_eqb b a (λ e. eqb-false a b q (sym e)))

pub realms_swapped : (a b : Realm) → same_realm a b ≡ same_realm b a
unfolding same_realm
realms_swapped a b = rw (equal_swapped a.hi b.hi, equal_swapped a.lo b.lo)
