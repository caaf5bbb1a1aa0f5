-- A claim that says no more is in the way no more, and with other types it is in the way by the same rule. Assumes nothing.
use mathlib.Core.Path.{◌≡◌, sym, ◌∙◌}
use mathlib.Core.Bool.{true}
use mathlib.Core.Logic.{◌⊎◌, inl, inr}
use Prim.Native.Nat.{ℕ, ◌≤◌, ◌<◌}
use native.Mathlib.Omega.{arith}
use Rattle.words.specs.Bit.{bit}
use Rattle.words.proofs.Tests.{fails}
use Rattle.claims.specs.Types.{kinds}
use Rattle.claims.specs.Claim.{with_types}
use Rattle.claims.specs.Rule.{covers_file, conflict, Conflicting}
use Rattle.claims.specs.declared.claim.Claim.{Claim}
use Rattle.claims.proofs.Sets.{empty, nonempty, part_less}
use Rattle.claims.proofs.Sentence.{by_sentence, in_conflict}

-- a claims no more than b
pub record Within (a b : Claim) : Type 0 where
  pub types : (i : ℕ) → bit i a.types ≡ true → bit i b.types ≡ true
  pub host : a.host ≡ b.host
  pub file : a.file ≡ b.file
  pub first : b.first ≤ a.first
  pub last : a.last ≤ b.last

module _ (a b other : Claim) (w : Within a b) where
  widened : (i j : ℕ) → Conflicting a other i j → Conflicting b other i j
  widened i j s = record {
    of_a = w.types i s.of_a;
    of_b = s.of_b;
    types = s.types;
    hosts_differ = λ e. s.hosts_differ (w.host ∙ e);
    file_is_same = sym w.file ∙ s.file_is_same;
    one_family = s.one_family;
    a_second = s.a_second;
    ranges = wider s.ranges;
  }
    where
      wider : (covers_file i ≡ true) ⊎ ((a.first ≤ other.last) × (other.first ≤ a.last))
          → (covers_file i ≡ true) ⊎ ((b.first ≤ other.last) × (other.first ≤ b.last))
      wider (inl p) = inl p
      wider (inr p) = inr (omega (arith, p.0, w.first), omega (arith, p.1, w.last))

  pub conflict_within : (i : ℕ) → bit i (conflict a other) ≡ true → bit i (conflict b other) ≡ true
  conflict_within i e = let s = by_sentence a other i e in in_conflict b other i s.0 (widened i s.0 s.1)

  pub apart_within : conflict b other ≡ 0 → conflict a other ≡ 0
  apart_within none = empty (conflict a other) (λ i. fails (bit i (conflict a other)) (λ e. nonempty (conflict b other) i (conflict_within i e) none))

module _ (a other : Claim) where
  -- a conflicting type is one of the claim's own, and a type that there is
  pub conflict_own : (i : ℕ) → bit i (conflict a other) ≡ true → (bit i a.types ≡ true) × (i < kinds)
  conflict_own i e = let s = (by_sentence a other i e).1 in (s.of_a, s.types.0)

  pub conflict_less : conflict a other ≤ a.types
  conflict_less = part_less (conflict a other) a.types (λ i p. (conflict_own i p).0)

  -- with other types, each that it has is in the way as it was
  pub conflict_still : (types i : ℕ) → bit i (conflict a other) ≡ true → bit i types ≡ true → bit i (conflict (with_types a types) other) ≡ true
  conflict_still types i e p =
      let s = by_sentence a other i e in
      in_conflict (with_types a types) other i s.0 (record {
        of_a = p;
        of_b = s.1.of_b;
        types = s.1.types;
        hosts_differ = s.1.hosts_differ;
        file_is_same = s.1.file_is_same;
        one_family = s.1.one_family;
        a_second = s.1.a_second;
        ranges = s.1.ranges;
      })
