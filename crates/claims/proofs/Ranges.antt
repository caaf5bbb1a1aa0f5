-- A claim's range, and what is in its way over another. Assumes nothing.
use mathlib.Core.Path.{◌≡◌}
use mathlib.Core.Bool.{true, false}
use mathlib.Core.Logic.{◌⊎◌, inl, inr, ◌≢◌}
use Prim.Native.Nat.{ℕ, ◌≤◌}
use borrow.Author.Tests.{ltb-false}
use lib.Dec.{ltb}
use Rattle.words.specs.Bit.{bit}
use Rattle.words.proofs.Tests.{fails, or_right}
use Rattle.claims.specs.Claim.{unfit, malformed, with_range}
use Rattle.claims.specs.Rule.{covers_file, conflict, Conflicting}
use Rattle.claims.specs.declared.claim.Claim.{Claim}
use Rattle.claims.proofs.Sets.{empty, nonempty, member}
use Rattle.claims.proofs.Sentence.{by_sentence, in_conflict}

pub in_order : (claim : Claim) (limit : ℕ) → malformed claim limit ≡ false → claim.first ≤ claim.last
unfolding malformed
in_order claim limit e = ltb-false claim.last claim.first (or_right (unfit claim.host claim.types limit) (ltb claim.last claim.first) e)

module _ (held claim : Claim) where
  moved : (f l f' l' i j : ℕ) → Conflicting held (with_range claim f l) i j → (covers_file i ≡ true) ⊎ ((held.first ≤ l') × (f' ≤ held.last))
      → bit i (conflict held (with_range claim f' l')) ≡ true
  moved f l f' l' i j s there = in_conflict held (with_range claim f' l') i j (record {
    of_a = s.of_a;
    of_b = s.of_b;
    types = s.types;
    hosts_differ = s.hosts_differ;
    file_is_same = s.file_is_same;
    one_family = s.one_family;
    a_second = s.a_second;
    ranges = there;
  })

  module _ (f l f' l' : ℕ) where
    -- not in the way over one range: nor over another, if it stands in none of its bytes, or in those of the first as well
    pub clear : conflict held (with_range claim f l) ≡ 0 → (held.first ≤ l' → f' ≤ held.last → (held.first ≤ l) × (f ≤ held.last))
        → conflict held (with_range claim f' l') ≡ 0
    clear none there = empty (conflict held (with_range claim f' l')) (λ i. fails (bit i (conflict held (with_range claim f' l'))) (λ e.
        let s = by_sentence held (with_range claim f' l') i e in
        nonempty (conflict held (with_range claim f l)) i (moved f' l' f l i s.0 s.1 (as_there i s.1.ranges)) none))
      where
        as_there : (i : ℕ) → (covers_file i ≡ true) ⊎ ((held.first ≤ l') × (f' ≤ held.last)) → (covers_file i ≡ true) ⊎ ((held.first ≤ l) × (f ≤ held.last))
        as_there i (inl p) = inl p
        as_there i (inr p) = inr (there p.0 p.1)

    -- in the way over one range and not over another: then it stands in none of the other's bytes
    pub elsewhere : conflict held (with_range claim f l) ≢ 0 → conflict held (with_range claim f' l') ≡ 0 → held.first ≤ l' → f' ≤ held.last → ⊥
    elsewhere some none p q =
        let m = member (conflict held (with_range claim f l)) some in
        let s = by_sentence held (with_range claim f l) m.0 m.1 in
        nonempty (conflict held (with_range claim f' l')) m.0 (moved f l f' l' m.0 s.0 s.1 (inr (p, q))) none
