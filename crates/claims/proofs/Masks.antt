-- The conflicting types as the code tells them, by masks. Assumes nothing.
use mathlib.Core.Path.{◌≡◌, refl, sym, ◌∙◌, ap}
use mathlib.Core.Bool.{Bool, true, false, not, ◌||◌, ◌&&◌, and-true}
use mathlib.Core.Logic.{◌⊎◌, inl, inr}
use Prim.Native.Nat.{ℕ, ◌*◌, ◌/◌, ◌%◌, ◌<◌}
use native.Mathlib.Omega.{arith}
use borrow.Author.Tests.{eqb-true, eqb-false, ne_eqb, not-true, not-false}
use lib.Bits.{bit_and, bit_or, and_mod, and_mask, and_le_r}
use lib.Dec.{eqb}
use Rattle.words.specs.Bit.{bit}
use Rattle.words.proofs.Tests.{differ, fails, and_left, and_right, and_both, or_one, one_or, same_test}
use Rattle.words.proofs.Bits.{bit-bit_and}
use Rattle.claims.specs.Types.{kinds, set_below, some_below}
use Rattle.claims.specs.Rule.{family, is_second, covers_file, some_cover, same_file, overlaps, clash, conflict}
use Rattle.claims.specs.Mask.{against, reach}
use Rattle.claims.specs.declared.claim.Claim.{Claim}
use Rattle.claims.proofs.Sets.{bit_set, set_below_lem, in_set, some_found, some_at, member, nonempty, same_members}

-- two numbers of a set of types that agree on all sets below 256, and go by the bits below 256 alone, agree on every set
pub agree : (f g : ℕ → ℕ) → some_below 256 (λ types. not (eqb (f types) (g types))) ≡ false
    → ((types : ℕ) → f types ≡ f (types % 256)) → ((types : ℕ) → g types ≡ g (types % 256)) → (types : ℕ) → f types ≡ g types
agree f g none f-low g-low types =
    let low = types % 256 in
    let same = eqb (f low) (g low) in
    let h : low < 256 = omega arith in
    let p = fails (not same) (λ e. differ (sym (some_at 256 (λ t. not (eqb (f t) (g t))) low h e) ∙ none)) in
    f-low types ∙ eqb-true (f low) (g low) (not-false same p) ∙ sym (g-low types)

-- a mask below 256 sees the bits below 256 alone
pub mask_low : (types mask : ℕ) → mask < 256 → bit_and types mask ≡ bit_and (types % 256) mask
mask_low types mask h =
    let e : bit_and types mask % 256 ≡ bit_and (types % 256) (mask % 256) = and_mod types mask 8 in
    let m : mask % 256 ≡ mask = omega arith in
    let b : bit_and types mask % 256 ≡ bit_and types mask = omega (arith, and_le_r types mask) in
    sym b ∙ e ∙ ap (bit_and (types % 256)) m

-- and so does a search for one of the types
pub bit_low : (i types : ℕ) → i < 8 → bit i types ≡ bit i (types % 256)
unfolding set_below
bit_low i types h =
    let e : bit i 255 ≡ true = bit_set 8 (λ j. true) i h in
    sym (ap (bit i) (sym (and_mask types 8)) ∙ bit-bit_and i types 255 ∙ rw e (and-true (bit i types)))

pub some_low : (types : ℕ) (test : ℕ → Bool) → some_below kinds (λ i. bit i types && test i) ≡ some_below kinds (λ i. bit i (types % 256) && test i)
unfolding some_below
some_low types test =
    rw (
      bit_low 0 types (omega arith),
      bit_low 1 types (omega arith),
      bit_low 2 types (omega arith),
      bit_low 3 types (omega arith),
      bit_low 4 types (omega arith),
      bit_low 5 types (omega arith),
      bit_low 6 types (omega arith),
      bit_low 7 types (omega arith),
    )
    refl

-- by family, as the code has it
unfoldable masked : ℕ → ℕ
masked types = bit_or (bit_and types 85 * 2) (bit_or (bit_and types 170) (bit_and types 170 / 2))

masked_low : (types : ℕ) → masked types ≡ masked (types % 256)
unfolding masked
masked_low types = rw (mask_low types 85 (omega arith), mask_low types 170 (omega arith)) refl

against_low : (types : ℕ) → against types ≡ against (types % 256)
unfolding against
against_low types = (λ k. set_below kinds (λ i. some_low types (λ j. eqb (family i) (family j) && (is_second i || is_second j)) k))

none_wrong : some_below 256 (λ types. not (eqb (masked types) (against types))) ≡ false
unfolding masked against set_below some_below family is_second bit
none_wrong = refl

pub by_family : (types : ℕ) → bit_or (bit_and types 85 * 2) (bit_or (bit_and types 170) (bit_and types 170 / 2)) ≡ against types
unfolding masked
by_family = agree masked against none_wrong masked_low against_low

-- the two masks of the range
pub whole_range : (overlapping : Bool) → overlapping ≡ true → 255 ≡ reach overlapping
unfolding reach set_below covers_file family
whole_range overlapping e = rw e refl

pub no_range : (overlapping : Bool) → overlapping ≡ false → 204 ≡ reach overlapping
unfolding reach set_below covers_file family
no_range overlapping e = rw e refl

-- the mask of status and open finds a type that covers the whole file
in_mask : (i : ℕ) → bit i 204 ≡ true → (i < kinds) × (covers_file i ≡ true)
unfolding reach
in_mask i e =
    let p : bit i (reach false) ≡ true = rw (← no_range false refl) e in
    (set_below_lem kinds (λ j. covers_file j || false) i p, go (or_one (covers_file i) false (in_set kinds (λ j. covers_file j || false) i p)))
  where
    go : (covers_file i ≡ true) ⊎ (false ≡ true) → covers_file i ≡ true
    go (inl q) = q
    go (inr q) = absurd (differ (sym q))

mask_has : (i : ℕ) → i < kinds → covers_file i ≡ true → bit i 204 ≡ true
unfolding reach
mask_has i h e = rw (no_range false refl) (bit_set kinds (λ j. covers_file j || false) i h ∙ one_or (covers_file i) false (inl e))

pub some_cover_lem : (types : ℕ) → not (eqb (bit_and types 204) 0) ≡ some_cover types
unfolding some_cover
some_cover_lem types = same_test (not (eqb (bit_and types 204) 0)) (some_cover types) forth back
  where
    test : ℕ → Bool
    test i = bit i types && covers_file i

    forth : not (eqb (bit_and types 204) 0) ≡ true → some_below kinds test ≡ true
    forth e =
        let m = member (bit_and types 204) (eqb-false (bit_and types 204) 0 (not-true (eqb (bit_and types 204) 0) e)) in
        let i : ℕ = m.0 in
        let both = sym (bit-bit_and i types 204) ∙ m.1 in
        let found = in_mask i (and_right (bit i types) (bit i 204) both) in
        some_at kinds test i found.0 (and_both (bit i types) (covers_file i) (and_left (bit i types) (bit i 204) both) found.1)

    back : some_below kinds test ≡ true → not (eqb (bit_and types 204) 0) ≡ true
    back e =
        let r = some_found kinds test e in
        let i : ℕ = r.0 in
        let has = mask_has i r.1 (and_right (bit i types) (covers_file i) r.2) in
        ap not (ne_eqb (bit_and types 204) 0 (nonempty (bit_and types 204) i (bit-bit_and i types 204 ∙ and_both (bit i types) (bit i 204) (and_left (bit i types) (covers_file i) r.2) has)))

module _ (a b : Claim) where
  -- where hosts differ and the file is the same
  pub both_masks : (not (eqb a.host b.host) && same_file a.file b.file) ≡ true
      → bit_and (bit_and a.types (against b.types)) (reach (overlaps a b)) ≡ conflict a b
  unfolding conflict clash against reach
  both_masks m = same_members (bit_and (bit_and a.types (against b.types)) (reach (overlaps a b))) (conflict a b) forth back
    where
      back : (i : ℕ) → bit i (conflict a b) ≡ true → bit i (bit_and (bit_and a.types (against b.types)) (reach (overlaps a b))) ≡ true
      back i e =
          let p = in_set kinds _ i e in
          let h : i < kinds = set_below_lem kinds _ i e in
          let r = some_found kinds _ (and_right (bit i a.types) _ p) in
          let j : ℕ = r.0 in
          let c = and_right (not (eqb a.host b.host) && same_file a.file b.file) _ (and_right (bit j b.types) _ r.2) in
          let kin = eqb (family i) (family j) && (is_second i || is_second j) in
          let near = covers_file i || overlaps a b in
          bit-bit_and i (bit_and a.types (against b.types)) (reach (overlaps a b))
          ∙ and_both (bit i (bit_and a.types (against b.types))) (bit i (reach (overlaps a b)))
          (bit-bit_and i a.types (against b.types) ∙ and_both (bit i a.types) (bit i (against b.types)) (and_left (bit i a.types) _ p)
          (bit_set kinds _ i h ∙ some_at kinds _ j r.1 (and_both (bit j b.types) kin (and_left (bit j b.types) _ r.2) (and_left kin near c))))
          (bit_set kinds _ i h ∙ and_right kin near c)

      forth : (i : ℕ) → bit i (bit_and (bit_and a.types (against b.types)) (reach (overlaps a b))) ≡ true → bit i (conflict a b) ≡ true
      forth i e =
          let p = sym (bit-bit_and i (bit_and a.types (against b.types)) (reach (overlaps a b))) ∙ e in
          let q = sym (bit-bit_and i a.types (against b.types)) ∙ and_left (bit i (bit_and a.types (against b.types))) _ p in
          let v = and_right (bit i a.types) _ q in
          let w = and_right (bit i (bit_and a.types (against b.types))) _ p in
          let r = some_found kinds _ (in_set kinds _ i v) in
          let j : ℕ = r.0 in
          bit_set kinds _ i (set_below_lem kinds _ i v)
          ∙ and_both (bit i a.types) _ (and_left (bit i a.types) _ q)
          (some_at kinds _ j r.1
          (and_both (bit j b.types) _ (and_left (bit j b.types) _ r.2)
          (and_both (not (eqb a.host b.host) && same_file a.file b.file) _ m
          (and_both (eqb (family i) (family j) && (is_second i || is_second j)) (covers_file i || overlaps a b) (and_right (bit j b.types) _ r.2) (in_set kinds _ i w)))))
