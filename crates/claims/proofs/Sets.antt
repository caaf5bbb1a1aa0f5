-- What the numbers of specs/Types say as sets. Assumes nothing.
use Rattle.std.specs.Prelude.{if◌then◌else◌}
use mathlib.Core.Path.{◌≡◌, refl, sym, ◌∙◌}
use mathlib.Core.Bool.{Bool, true, false}
use mathlib.Core.Logic.{◌⊎◌, inl, inr, ◌≢◌}
use Prim.Native.Nat.{ℕ, zero, suc, ◌+◌, ◌*◌, ◌/◌, ◌%◌, ◌≤◌, ◌<◌}
use native.Mathlib.Omega.{arith}
use borrow.Author.Tests.{eqb-true, eqb-false, eq-eqb, ne_eqb}
use lib.Arith.{bin_ind}
use lib.Bits.{bit_and, and_le_r}
use lib.Dec.{eqb}
use Rattle.words.specs.Bit.{bit}
use Rattle.words.proofs.Tests.{differ, and_left, and_both, or_one, one_or, same_test}
use Rattle.words.proofs.Bits.{bit_first, bit_next, bit-bit_and}
use Rattle.claims.specs.Types.{set_below, some_below}

one_lower : (b : Bool) (n : ℕ) → ((if b then 1 else 0) + 2 * n) / 2 ≡ n
one_lower true n = omega arith
one_lower false n = omega arith

lowest : (b : Bool) (n : ℕ) → eqb (((if b then 1 else 0) + 2 * n) % 2) 1 ≡ b
lowest true n = eq-eqb ((1 + 2 * n) % 2) 1 (omega arith)
lowest false n = ne_eqb ((0 + 2 * n) % 2) 1 (omega arith)

pub bit_zero : (i : ℕ) → bit i 0 ≡ false
bit_zero zero = bit_first 0
bit_zero (suc i) = bit_next i 0 ∙ bit_zero i

-- a number below n is in the set exactly when it passes the test
pub bit_set : (n : ℕ) (test : ℕ → Bool) (i : ℕ) → i < n → bit i (set_below n test) ≡ test i
unfolding set_below
bit_set zero test i h = absurd (omega arith)
bit_set (suc n) test zero h = bit_first ((if test 0 then 1 else 0) + 2 * set_below n (λ j. test (suc j))) ∙ lowest (test 0) (set_below n (λ j. test (suc j)))
bit_set (suc n) test (suc i) h =
    bit_next i ((if test 0 then 1 else 0) + 2 * set_below n (λ j. test (suc j)))
    ∙ rw (one_lower (test 0) (set_below n (λ j. test (suc j)))) (bit_set n (λ j. test (suc j)) i (omega arith))

pub set_below_lem : (n : ℕ) (test : ℕ → Bool) (i : ℕ) → bit i (set_below n test) ≡ true → i < n
unfolding set_below
set_below_lem zero test i e = absurd (differ (sym e ∙ bit_zero i))
set_below_lem (suc n) test zero e = omega arith
set_below_lem (suc n) test (suc i) e =
    let f : bit i (set_below n (λ j. test (suc j))) ≡ true = sym (bit_next i ((if test 0 then 1 else 0) + 2 * set_below n (λ j. test (suc j))) ∙ rw (one_lower (test 0) (set_below n (λ j. test (suc j)))) refl) ∙ e in
    let h : i < n = set_below_lem n (λ j. test (suc j)) i f in
    omega arith

pub in_set : (n : ℕ) (test : ℕ → Bool) (i : ℕ) → bit i (set_below n test) ≡ true → test i ≡ true
in_set n test i e = sym (bit_set n test i (set_below_lem n test i e)) ∙ e

-- some number below n passes the test
pub some_found : (n : ℕ) (test : ℕ → Bool) → some_below n test ≡ true → (i : ℕ) × (i < n) × (test i ≡ true)
unfolding some_below
some_found zero test e = absurd (differ (sym e))
some_found (suc n) test e = go (or_one (test 0) (some_below n (λ j. test (suc j))) e) (some_found n (λ j. test (suc j)))
  where
    go : (test 0 ≡ true) ⊎ (some_below n (λ j. test (suc j)) ≡ true)
        → (some_below n (λ j. test (suc j)) ≡ true → (i : ℕ) × (i < n) × (test (suc i) ≡ true)) → (i : ℕ) × (i < suc n) × (test i ≡ true)
    go (inl p) later = (0, omega arith, p)
    go (inr p) later = let r = later p in (suc r.0, omega (arith, r.1), r.2)

pub some_at : (n : ℕ) (test : ℕ → Bool) (i : ℕ) → i < n → test i ≡ true → some_below n test ≡ true
unfolding some_below
some_at zero test i h e = absurd (omega arith)
some_at (suc n) test zero h e = one_or (test 0) (some_below n (λ j. test (suc j))) (inl e)
some_at (suc n) test (suc i) h e = one_or (test 0) (some_below n (λ j. test (suc j))) (inr (some_at n (λ j. test (suc j)) i (omega arith) e))

even : (n : ℕ) → bit 0 n ≡ false → n % 2 ≡ 0
even n e = omega (arith, eqb-false (n % 2) 1 (sym (bit_first n) ∙ e))

-- a set is 0 exactly when it has no member
pub empty : (s : ℕ) → ((i : ℕ) → bit i s ≡ false) → s ≡ 0
empty = bin_ind (λ (n : ℕ). ((i : ℕ) → bit i n ≡ false) → n ≡ 0) (λ h. refl)
    (λ n later h. omega (arith, even n (h 0), later (λ i. sym (bit_next i n) ∙ h (suc i))))

pub nonempty : (s i : ℕ) → bit i s ≡ true → s ≢ 0
nonempty s i e z = differ (sym e ∙ rw z (bit_zero i))

pub member : (s : ℕ) → s ≢ 0 → (i : ℕ) × (bit i s ≡ true)
member = bin_ind (λ (n : ℕ). n ≢ 0 → (i : ℕ) × (bit i n ≡ true)) (λ h. absurd (h refl)) (λ n later h. go n later h (bit 0 n) refl)
  where
    go : (n : ℕ) → (n / 2 ≢ 0 → (i : ℕ) × (bit i (n / 2) ≡ true)) → n ≢ 0 → (b : Bool) → bit 0 n ≡ b → (i : ℕ) × (bit i n ≡ true)
    go n later h true e = (0, e)
    go n later h false e =
        let r = later (λ z. h (omega (arith, even n e))) in
        (suc r.0, bit_next r.0 n ∙ r.1)

odd_alike : (m n : ℕ) → bit 0 m ≡ bit 0 n → m % 2 ≡ n % 2
odd_alike m n e = go (bit 0 m) refl
  where
    go : (b : Bool) → bit 0 m ≡ b → m % 2 ≡ n % 2
    go true p = omega (arith, eqb-true (m % 2) 1 (sym (bit_first m) ∙ p), eqb-true (n % 2) 1 (sym (bit_first n) ∙ sym e ∙ p))
    go false p = omega (arith, even m p, even n (sym e ∙ p))

-- two sets with the same members are one number
pub same_set : (s t : ℕ) → ((i : ℕ) → bit i s ≡ bit i t) → s ≡ t
same_set = bin_ind (λ (n : ℕ). (t : ℕ) → ((i : ℕ) → bit i n ≡ bit i t) → n ≡ t)
    (λ t h. sym (empty t (λ i. sym (h i) ∙ bit_zero i)))
    (λ n later t h. omega (arith, later (t / 2) (λ i. sym (bit_next i n) ∙ h (suc i) ∙ bit_next i t), odd_alike n t (h 0)))

pub same_members : (s t : ℕ) → ((i : ℕ) → bit i s ≡ true → bit i t ≡ true) → ((i : ℕ) → bit i t ≡ true → bit i s ≡ true) → s ≡ t
same_members s t f g = same_set s t (λ i. same_test (bit i s) (bit i t) (f i) (g i))

-- a set whose members are all in another is no greater a number
pub part_less : (s t : ℕ) → ((i : ℕ) → bit i s ≡ true → bit i t ≡ true) → s ≤ t
part_less s t f =
    let e : bit_and s t ≡ s =
    same_members (bit_and s t) s (λ i p. and_left (bit i s) (bit i t) (sym (bit-bit_and i s t) ∙ p)) (λ i p. bit-bit_and i s t ∙ and_both (bit i s) (bit i t) p (f i p)) in
    omega (arith, and_le_r s t)
