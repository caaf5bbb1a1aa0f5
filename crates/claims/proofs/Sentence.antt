-- Types conflict exactly by the paper's sentence, read as propositions. Assumes nothing.
use mathlib.Core.Path.{◌≡◌, ap, ◌∙◌}
use mathlib.Core.Bool.{true, not, ◌||◌, ◌&&◌}
use mathlib.Core.Logic.{◌⊎◌, inl, inr, ◌↔◌}
use Prim.Native.Nat.{ℕ, ◌≤◌, ◌<◌}
use borrow.Author.Tests.{eqb-true, eqb-false, eq-eqb, ne_eqb, leb-true, le-leb, not-true}
use lib.Dec.{eqb, leb}
use Rattle.words.specs.Bit.{bit}
use Rattle.words.proofs.Tests.{and_left, and_right, and_both, or_one, one_or}
use Rattle.claims.specs.Types.{kinds}
use Rattle.claims.specs.Rule.{family, is_second, covers_file, same_file, overlaps, clash, conflict, Conflicting}
use Rattle.claims.specs.declared.claim.FileId.{FileId}
use Rattle.claims.specs.declared.claim.Claim.{Claim}
use Rattle.claims.proofs.Sets.{bit_set, set_below_lem, in_set, some_found, some_at}

one_file : (a b : FileId) → same_file a b ≡ true → a ≡ b
unfolding same_file
one_file a b e =
    let hi = eqb-true a.hi b.hi (and_left (eqb a.hi b.hi) (eqb a.lo b.lo) e) in
    let lo = eqb-true a.lo b.lo (and_right (eqb a.hi b.hi) (eqb a.lo b.lo) e) in
    (λ k. record { hi = hi k; lo = lo k })

pub file_itself : (a b : FileId) → a ≡ b → same_file a b ≡ true
unfolding same_file
file_itself a b e =
    and_both (eqb a.hi b.hi) (eqb a.lo b.lo)
    (eq-eqb a.hi b.hi (ap (λ (f : FileId). f.hi) e)) (eq-eqb a.lo b.lo (ap (λ (f : FileId). f.lo) e))

module _ (a b : Claim) where
  ends : overlaps a b ≡ true → (a.first ≤ b.last) × (b.first ≤ a.last)
  unfolding overlaps
  ends e =
      let f = leb a.first b.last in
      let l = leb b.first a.last in
      (leb-true a.first b.last (and_left f l e), leb-true b.first a.last (and_right f l e))

  overlapping : (a.first ≤ b.last) × (b.first ≤ a.last) → overlaps a b ≡ true
  unfolding overlaps
  overlapping h =
      and_both (leb a.first b.last) (leb b.first a.last) (le-leb a.first b.last h.0) (le-leb b.first a.last h.1)

  module _ (i j : ℕ) where
    sentence : bit i a.types ≡ true → bit j b.types ≡ true → (i < kinds) × (j < kinds) → clash a b i j ≡ true → Conflicting a b i j
    unfolding clash
    sentence p q known e =
        let other = not (eqb a.host b.host) in
        let file = same_file a.file b.file in
        let kin = eqb (family i) (family j) in
        let strong = is_second i || is_second j in
        let near = covers_file i || overlaps a b in
        let who = and_left (other && file) ((kin && strong) && near) e in
        let what = and_right (other && file) ((kin && strong) && near) e in
        let types = and_left (kin && strong) near what in
        record {
          of_a = p;
          of_b = q;
          types = known;
          hosts_differ = eqb-false a.host b.host (not-true (eqb a.host b.host) (and_left other file who));
          file_is_same = one_file a.file b.file (and_right other file who);
          one_family = eqb-true (family i) (family j) (and_left kin strong types);
          a_second = or_one (is_second i) (is_second j) (and_right kin strong types);
          ranges = where_to (or_one (covers_file i) (overlaps a b) (and_right (kin && strong) near what));
        }
      where
        where_to : (covers_file i ≡ true) ⊎ (overlaps a b ≡ true) → (covers_file i ≡ true) ⊎ ((a.first ≤ b.last) × (b.first ≤ a.last))
        where_to (inl p) = inl p
        where_to (inr p) = inr (ends p)

    clashes : Conflicting a b i j → clash a b i j ≡ true
    unfolding clash
    clashes s =
        let other : not (eqb a.host b.host) ≡ true = rw (ne_eqb a.host b.host s.hosts_differ) in
        and_both (not (eqb a.host b.host) && same_file a.file b.file) _
        (and_both (not (eqb a.host b.host)) (same_file a.file b.file) other (file_itself a.file b.file s.file_is_same))
        (and_both (eqb (family i) (family j) && (is_second i || is_second j)) (covers_file i || overlaps a b)
        (and_both (eqb (family i) (family j)) (is_second i || is_second j) (eq-eqb (family i) (family j) s.one_family) (one_or (is_second i) (is_second j) s.a_second))
        (one_or (covers_file i) (overlaps a b) (where_from s.ranges)))
      where
        where_from : (covers_file i ≡ true) ⊎ ((a.first ≤ b.last) × (b.first ≤ a.last)) → (covers_file i ≡ true) ⊎ (overlaps a b ≡ true)
        where_from (inl p) = inl p
        where_from (inr p) = inr (overlapping p)

  pub by_sentence : (i : ℕ) → bit i (conflict a b) ≡ true → (j : ℕ) × Conflicting a b i j
  unfolding conflict
  by_sentence i e =
      let p = in_set kinds _ i e in
      let r = some_found kinds _ (and_right (bit i a.types) _ p) in
      let j : ℕ = r.0 in
      let of_b = and_left (bit j b.types) (clash a b i j) r.2 in
      (j, sentence i j (and_left (bit i a.types) _ p) of_b (set_below_lem kinds _ i e, r.1) (and_right (bit j b.types) (clash a b i j) r.2))

  pub in_conflict : (i j : ℕ) → Conflicting a b i j → bit i (conflict a b) ≡ true
  unfolding conflict
  in_conflict i j s =
      bit_set kinds _ i s.types.0
      ∙ and_both (bit i a.types) _ s.of_a
      (some_at kinds _ j s.types.1 (and_both (bit j b.types) (clash a b i j) s.of_b (clashes i j s)))

  -- type i of a is among the conflicting types exactly when b has a type that it conflicts with
  pub rule : (i : ℕ) → (bit i (conflict a b) ≡ true) ↔ ((j : ℕ) × Conflicting a b i j)
  rule i = (by_sentence i, λ s. in_conflict i s.0 s.1)
