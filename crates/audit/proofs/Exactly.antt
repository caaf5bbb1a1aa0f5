-- Audit says yes exactly of a well-formed table whose numbers differ and in which nothing conflicts. Assumes nothing.
use mathlib.Core.Path.{◌≡◌, refl, sym}
use mathlib.Core.Bool.{Bool, true, false, not}
use mathlib.Core.List.{List, [], ◌∷◌}
use mathlib.Core.Logic.{◌↔◌, ◌≢◌}
use Prim.Native.Nat.{ℕ, zero, suc, ◌<◌}
use native.Mathlib.Omega.{arith}
use borrow.Author.Tests.{ltb-true, ltb-false, eqb-true, eqb-false, eq-eqb, ne_eqb, not-true}
use lib.Dec.{eqb, ltb}
use lib.ListN.{get_or}
use Rattle.words.specs.Test.{all_of}
use Rattle.words.proofs.Tests.{Each, each_at, all_each, each_all, and_left, and_right, and_both}
use Rattle.claims.specs.Rule.{conflict}
use Rattle.claims.specs.declared.claim.Claim.{Claim}
use Rattle.claims.proofs.Symmetry.{symmetric}
use Rattle.table.specs.Table.{Table}
use Rattle.table.specs.Layout.{table_of}
use Rattle.table.specs.Form.{well_formed}
use Rattle.table.specs.declared.slot.Slot.{Slot}
use Rattle.table.specs.declared.slot.Slot.TheVariants.{Free, Held}
use Rattle.audit.specs.Audit.{apart, all_apart, sound, Quiet}

-- what holds at every place holds of each
at_each : (P : Slot → Type 0) (slots : List Slot) → ((i : ℕ) → P (get_or slots i Free)) → Each P slots
unfolding Each
at_each P [] f = tt
at_each P (s ∷ ss) f = (f 0, at_each P ss (λ i. f (suc i)))

pub free_last : (slot : Slot) → apart slot Free ≡ true
unfolding apart
free_last Free = refl
free_last (Held number claim) = refl

pub from_free : (slot : Slot) → apart Free slot ≡ true
unfolding apart
from_free slot = refl

-- any two places, the lower one first
pair_apart : (slots : List Slot) → all_apart slots ≡ true → (i j : ℕ) → i < j → apart (get_or slots i Free) (get_or slots j Free) ≡ true
unfolding all_apart
pair_apart [] e i j h = free_last Free
pair_apart (s ∷ ss) e i zero h = absurd (omega arith)
pair_apart (s ∷ ss) e zero (suc j) h = each_at (λ other. apart s other ≡ true) ss Free (all_each (apart s) ss (and_left (all_of (apart s) ss) (all_apart ss) e)) (free_last s) j
pair_apart (s ∷ ss) e (suc i) (suc j) h = pair_apart ss (and_right (all_of (apart s) ss) (all_apart ss) e) i j (omega arith)

pub apart_pairs : (slots : List Slot) → ((i j : ℕ) → i < j → apart (get_or slots i Free) (get_or slots j Free) ≡ true) → all_apart slots ≡ true
unfolding all_apart
apart_pairs [] f = refl
apart_pairs (s ∷ ss) f =
    and_both (all_of (apart s) ss) (all_apart ss)
    (each_all (apart s) ss (at_each (λ other. apart s other ≡ true) ss (λ j. f 0 (suc j) (omega arith))))
    (apart_pairs ss (λ i j h. f (suc i) (suc j) (omega arith)))

module _ (number other : ℕ) (claim claimed : Claim) where
  pub tokens_apart : apart (Held number claim) (Held other claimed) ≡ true → (number ≢ other) × (conflict claim claimed ≡ 0)
  unfolding apart
  tokens_apart e =
      let d = not (eqb number other) in
      let n = eqb (conflict claim claimed) 0 in
      (eqb-false number other (not-true (eqb number other) (and_left d n e)), eqb-true (conflict claim claimed) 0 (and_right d n e))

  pub apart_tokens : number ≢ other → conflict claim claimed ≡ 0 → apart (Held number claim) (Held other claimed) ≡ true
  unfolding apart
  apart_tokens d n = rw (ne_eqb number other d, eq-eqb (conflict claim claimed) 0 n) refl

module _ (t : Table) where
  -- two places that hold tokens, in either order
  two : all_apart t.slots ≡ true → (i j number other : ℕ) (claim claimed : Claim) → i ≢ j
      → get_or t.slots i Free ≡ Held number claim → get_or t.slots j Free ≡ Held other claimed → (number ≢ other) × (conflict claim claimed ≡ 0)
  two e i j number other claim claimed d p q = go (ltb i j) refl
    where
      go : (b : Bool) → ltb i j ≡ b → (number ≢ other) × (conflict claim claimed ≡ 0)
      go true h = tokens_apart number other claim claimed (rw (p, q) at (pair_apart t.slots e i j (ltb-true i j h)))
      go false h =
          let l : j < i = omega (arith, ltb-false i j h) in
          let r = tokens_apart other number claimed claim (rw (q, p) at (pair_apart t.slots e j i l)) in
          (λ z. r.0 (sym z), symmetric claimed claim r.1)

  quiet : all_apart t.slots ≡ true → Quiet t
  quiet e = record {
    numbers_differ = λ i j number other claim claimed d p q. (two e i j number other claim claimed d p q).0;
    nothing_conflicts = λ i j number other claim claimed d p q. (two e i j number other claim claimed d p q).1;
  }

  all_apart_lem : Quiet t → all_apart t.slots ≡ true
  all_apart_lem q = apart_pairs t.slots (λ i j h. go (get_or t.slots i Free) (get_or t.slots j Free) i j (λ z. omega arith) refl refl)
    where
      go : (a b : Slot) (i j : ℕ) → i ≢ j → get_or t.slots i Free ≡ a → get_or t.slots j Free ≡ b → apart a b ≡ true
      go Free b i j d p r = from_free b
      go (Held number claim) Free i j d p r = free_last (Held number claim)
      go (Held number claim) (Held other claimed) i j d p r =
          apart_tokens number other claim claimed (q.numbers_differ i j number other claim claimed d p r) (q.nothing_conflicts i j number other claim claimed d p r)

pub exactly : (bytes : List ℕ) → (sound bytes ≡ true) ↔ ((well_formed bytes ≡ true) × Quiet (table_of bytes))
unfolding sound
exactly bytes = (
  λ e. (and_left (well_formed bytes) (all_apart (table_of bytes).slots) e, quiet (table_of bytes) (and_right (well_formed bytes) (all_apart (table_of bytes).slots) e)),
  λ q. and_both (well_formed bytes) (all_apart (table_of bytes).slots) q.0 (all_apart_lem (table_of bytes) q.1),
)
