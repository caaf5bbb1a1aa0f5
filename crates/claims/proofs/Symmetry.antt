-- Two claims conflict or they do not, whichever is asked; one host never conflicts with itself. Assumes nothing.
use mathlib.Core.Path.{◌≡◌, sym, ◌∙◌, ap}
use mathlib.Core.Bool.{true, false, ◌||◌}
use mathlib.Core.Logic.{◌⊎◌, inl, inr}
use Prim.Native.Nat.{ℕ, ◌≤◌}
use lib.Dec.{eqb}
use Rattle.words.specs.Bit.{bit}
use Rattle.words.proofs.Tests.{differ, fails}
use Rattle.claims.specs.Rule.{family, is_second, covers_file, same_file, conflict, Conflicting}
use Rattle.claims.specs.declared.claim.Claim.{Claim}
use Rattle.claims.proofs.Sets.{empty, nonempty}
use Rattle.claims.proofs.Sentence.{file_itself, by_sentence, in_conflict}

-- the types of one family cover alike
covers_alike : (i j : ℕ) → family i ≡ family j → covers_file i ≡ covers_file j
unfolding covers_file
covers_alike i j e = ap (λ (f : ℕ). eqb f 1 || eqb f 3) e

-- the sentence, read from the other side
turned : (a b : Claim) (i j : ℕ) → Conflicting a b i j → Conflicting b a j i
turned a b i j s = record {
  of_a = s.of_b;
  of_b = s.of_a;
  types = (s.types.1, s.types.0);
  hosts_differ = λ e. s.hosts_differ (sym e);
  file_is_same = sym s.file_is_same;
  one_family = sym s.one_family;
  a_second = either s.a_second;
  ranges = both s.ranges;
}
  where
    either : (is_second i ≡ true) ⊎ (is_second j ≡ true) → (is_second j ≡ true) ⊎ (is_second i ≡ true)
    either (inl p) = inr p
    either (inr p) = inl p

    both : (covers_file i ≡ true) ⊎ ((a.first ≤ b.last) × (b.first ≤ a.last))
        → (covers_file j ≡ true) ⊎ ((b.first ≤ a.last) × (a.first ≤ b.last))
    both (inl p) = inl (sym (covers_alike i j s.one_family) ∙ p)
    both (inr p) = inr (p.1, p.0)

pub symmetric : (a b : Claim) → conflict a b ≡ 0 → conflict b a ≡ 0
symmetric a b none = empty (conflict b a) (λ i. fails (bit i (conflict b a)) (λ e. back i e))
  where
    back : (i : ℕ) → bit i (conflict b a) ≡ true → ⊥
    back i e =
        let s = by_sentence b a i e in
        nonempty (conflict a b) s.0 (in_conflict a b s.0 i (turned b a i s.0 s.1)) none

pub one_host : (a b : Claim) → a.host ≡ b.host → conflict a b ≡ 0
one_host a b same = empty (conflict a b) (λ i. fails (bit i (conflict a b)) (λ e. (by_sentence a b i e).1.hosts_differ same))

pub two_files : (a b : Claim) → same_file a.file b.file ≡ false → conflict a b ≡ 0
two_files a b apart =
    empty (conflict a b) (λ i. fails (bit i (conflict a b)) (λ e.
    differ (sym (file_itself a.file b.file (by_sentence a b i e).1.file_is_same) ∙ apart)))
