-- Types taken from a set, as the code does it: by `&` and a difference. Assumes nothing.
use mathlib.Core.Path.{◌≡◌, refl, sym, ◌∙◌, ap}
use mathlib.Core.Bool.{Bool, true, false, not, ◌&&◌}
use mathlib.Core.Logic.{◌⊎◌, inl, inr}
use Prim.Native.Nat.{ℕ, zero, suc, ◌-◌, ◌/◌, ◌%◌, ◌^◌, ◌≤◌, ◌<◌}
use native.Mathlib.Nat.{pow-suc}
use native.Mathlib.Omega.{arith}
use borrow.Author.Tests.{eqb-true, eq-eqb, ne_eqb, not-true, not-false}
use lib.Arith.{lt-one}
use lib.Bits.{bit_and, bit_or, or_disjoint, and_le_l, and_mask}
use lib.Dec.{eqb}
use Rattle.words.specs.Bit.{bit}
use Rattle.words.proofs.Tests.{differ, fails, and_left, and_right, and_both, or_one, one_or}
use Rattle.words.proofs.Bits.{bit_next, bit-bit_and, bit-bit_or}
use Rattle.claims.specs.Types.{kinds, without, lacks}
use Rattle.claims.proofs.Sets.{bit_zero, bit_set, set_below_lem, in_set, some_found, some_at, empty, same_set, same_members, part_less}
use Rattle.claims.proofs.Masks.{bit_low, some_low}

below : (n s i : ℕ) → s < 2 ^ n → bit i s ≡ true → i < n
below zero s i h e = absurd (differ (sym e ∙ rw (lt-one h) (bit_zero i)))
below (suc n) s zero h e = omega arith
below (suc n) s (suc i) h e =
    let r : i < n = below n (s / 2) i (omega (arith, rw pow-suc at h)) (sym (bit_next i s) ∙ e) in omega arith

module _ (held types : ℕ) where
  pub in_without : (i : ℕ) → bit i (without held types) ≡ true → (bit i held ≡ true) × (bit i types ≡ false)
  unfolding without
  in_without i e =
      let p = in_set kinds (λ j. bit j held && not (bit j types)) i e in
      (and_left (bit i held) (not (bit i types)) p, not-true (bit i types) (and_right (bit i held) (not (bit i types)) p))

  without_kind : (i : ℕ) → bit i (without held types) ≡ true → i < kinds
  unfolding without
  without_kind i e = set_below_lem kinds (λ j. bit j held && not (bit j types)) i e

  pub without_in : (i : ℕ) → i < kinds → bit i held ≡ true → bit i types ≡ false → bit i (without held types) ≡ true
  unfolding without
  without_in i h p q = bit_set kinds (λ j. bit j held && not (bit j types)) i h ∙ rw (p, q) refl

  -- nothing is lacking where each of the types is held
  pub none_lacking : ((i : ℕ) → bit i types ≡ true → bit i held ≡ true) → lacks held types ≡ false
  unfolding lacks
  none_lacking f = fails (lacks held types) (λ e.
      let r = some_found kinds (λ j. bit j types && not (bit j held)) e in
      let has = and_left (bit r.0 types) (not (bit r.0 held)) r.2 in
      differ (sym (f r.0 has) ∙ not-true (bit r.0 held) (and_right (bit r.0 types) (not (bit r.0 held)) r.2)))

  pub without_less : without held types ≤ held
  without_less = part_less (without held types) held (λ i p. (in_without i p).0)

  module _ (few : types < 2 ^ kinds) where
    -- some type is lacking where what both have is not all of them
    pub lacks_and : lacks held types ≡ not (eqb (bit_and held types) types)
    unfolding lacks
    lacks_and = go (lacks held types) refl
      where
        all : (i : ℕ) (s t : Bool) → bit i held ≡ s → bit i types ≡ t → lacks held types ≡ false → (s && t) ≡ t
        all i true t p q e = refl
        all i false false p q e = refl
        all i false true p q e = absurd (differ (sym (some_at kinds (λ j. bit j types && not (bit j held)) i (below kinds types i few q) (rw (p, q) refl)) ∙ e))

        go : (b : Bool) → lacks held types ≡ b → b ≡ not (eqb (bit_and held types) types)
        go true e =
            let r = some_found kinds (λ j. bit j types && not (bit j held)) e in
            let i : ℕ = r.0 in
            let has = and_left (bit i types) (not (bit i held)) r.2 in
            let hasnt = not-true (bit i held) (and_right (bit i types) (not (bit i held)) r.2) in
            sym (ap not (ne_eqb (bit_and held types) types (λ z.
            differ (sym has ∙ ap (bit i) (sym z) ∙ bit-bit_and i held types ∙ rw hasnt refl))))
        go false e =
            sym (ap not (eq-eqb (bit_and held types) types (same_set (bit_and held types) types (λ i.
            bit-bit_and i held types ∙ all i (bit i held) (bit i types) refl refl e))))

    module _ (none : lacks held types ≡ false) where
      has_all : (i : ℕ) → bit i types ≡ true → bit i held ≡ true
      unfolding lacks
      has_all i p =
          not-false (bit i held) (fails (not (bit i held)) (λ q.
          differ (sym (some_at kinds (λ j. bit j types && not (bit j held)) i (below kinds types i few p) (rw (p, q) refl)) ∙ none)))

      pub no_more : types ≤ held
      no_more =
          let e : bit_and held types ≡ types = eqb-true (bit_and held types) types (not-false (eqb (bit_and held types) types) (sym lacks_and ∙ none)) in
          omega (arith, and_le_l held types)

      apart : bit_and (without held types) types ≡ 0
      apart = empty (bit_and (without held types) types) (λ i. fails (bit i (bit_and (without held types) types)) (λ p.
          let w = sym (bit-bit_and i (without held types) types) ∙ p in
          differ (sym (and_right (bit i (without held types)) (bit i types) w) ∙ (in_without i (and_left (bit i (without held types)) (bit i types) w)).1)))

      together : held < 2 ^ kinds → bit_or (without held types) types ≡ held
      unfolding without
      together small = same_members (bit_or (without held types) types) held
          (λ i p. back i (or_one (bit i (without held types)) (bit i types) (sym (bit-bit_or i (without held types) types) ∙ p)))
          (λ i p. forth i p (bit i types) refl)
        where
          back : (i : ℕ) → (bit i (without held types) ≡ true) ⊎ (bit i types ≡ true) → bit i held ≡ true
          back i (inl p) = (in_without i p).0
          back i (inr p) = has_all i p

          forth : (i : ℕ) → bit i held ≡ true → (b : Bool) → bit i types ≡ b → bit i (bit_or (without held types) types) ≡ true
          forth i p true q = bit-bit_or i (without held types) types ∙ one_or (bit i (without held types)) (bit i types) (inr q)
          forth i p false q =
              bit-bit_or i (without held types) types
              ∙ one_or (bit i (without held types)) (bit i types)
              (inl (without_in i (below kinds held i small p) p q))

      -- what is left is a difference
      pub difference : held < 2 ^ kinds → held - types ≡ without held types
      difference small = omega (arith, together small, or_disjoint (without held types) types apart)

-- on any number, of which the lowest eight bits are the types
module _ (held types : ℕ) where
  low : (n : ℕ) → bit_and n 255 ≡ n % 256
  low n = and_mask n 8

  pub lacks_any : not (eqb (bit_and held (bit_and types 255)) (bit_and types 255)) ≡ lacks held types
  unfolding lacks
  lacks_any =
      let named : lacks held types ≡ lacks held (types % 256) = some_low types (λ i. not (bit i held)) in
      rw (low types) (sym (named ∙ lacks_and held (types % 256) (omega arith)))

  all : ℕ
  all = bit_and held 255

  pub without_any : bit_and held 255 - bit_and (bit_and held 255) types ≡ without held types
  unfolding all
  without_any = difference all (bit_and all types) (omega (arith, low held, and_le_l all types)) none (omega (arith, low held)) ∙ same_members (without all (bit_and all types)) (without held types) forth back
    where
      has : (i : ℕ) → i < kinds → bit i all ≡ bit i held
      has i h = ap (bit i) (low held) ∙ sym (bit_low i held h)

      none : lacks all (bit_and all types) ≡ false
      none = none_lacking all (bit_and all types) (λ i p. and_left (bit i all) (bit i types) (sym (bit-bit_and i all types) ∙ p))

      forth : (i : ℕ) → bit i (without all (bit_and all types)) ≡ true → bit i (without held types) ≡ true
      forth i e =
          let p = in_without all (bit_and all types) i e in
          let h = without_kind all (bit_and all types) i e in
          without_in held types i h (sym (has i h) ∙ p.0)
          (fails (bit i types) (λ q. differ (sym (bit-bit_and i all types ∙ and_both (bit i all) (bit i types) p.0 q) ∙ p.1)))

      back : (i : ℕ) → bit i (without held types) ≡ true → bit i (without all (bit_and all types)) ≡ true
      back i e =
          let p = in_without held types i e in
          let h = without_kind held types i e in
          without_in all (bit_and all types) i h (has i h ∙ p.0) (bit-bit_and i all types ∙ rw (has i h, p.0) p.1)
