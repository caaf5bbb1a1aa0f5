-- What one pass counts is what the steps decide. Assumes nothing.
use Rattle.std.specs.Prelude.{if◌then◌else◌}
use mathlib.Core.Path.{◌≡◌, refl, sym, ◌∙◌, ap}
use mathlib.Core.List.{List, [], ◌∷◌, ◌++◌, foldl, foldl-append, append-nil, append_assoc}
use mathlib.Core.Bool.{Bool, true, false, cond}
use Prim.Native.Nat.{ℕ, suc, ◌≤◌}
use native.Mathlib.Omega.{arith}
use borrow.Author.Tests.{eqb-true, lt-ltb, le-ltb, eq-eqb, ne_eqb}
use lib.Bits.{bit_or, or_zero_l}
use Rattle.words.specs.Test.{those}
use Rattle.words.proofs.Tests.{those_append, Each}
use Rattle.list.specs.Checking.{Placed}
use Rattle.records.specs.declared.records.Record.{Record}
use Rattle.evaluate.specs.Steps.{Step, Served, serving, served_from, union, is_mask, masking, first}
use Rattle.evaluate.specs.Tally.{step_from, with_mask, with_union, counted, tallied, tallying}
use Rattle.evaluate.specs.declared.tally.Tally.{Tally}

union_one : (p : Placed) → union (p ∷ []) ≡ p.it.rights
unfolding union
union_one p = or_zero_l p.it.rights

union_more : (ps : List Placed) (p : Placed) → union (ps ++ (p ∷ [])) ≡ bit_or (union ps) p.it.rights
unfolding union
union_more ps p = foldl-append (λ (x : ℕ) (q : Placed). bit_or x q.it.rights) 0 ps (p ∷ [])

-- what is kept of the records that serve a step, and of the mask
unfoldable pub as_tally : ℕ → Served → Tally
as_tally mask s = record {
  step = s.step;
  rights = union s.by;
  start = (first s.by).at;
  size = (first s.by).it.size;
  mask = mask;
}

steps_rise : (n : ℕ) (ts : List Step) (r : Record) → n ≤ step_from n ts r
unfolding step_from
steps_rise n [] r = omega arith
steps_rise n (t ∷ ts) r = go (t.takes r) (steps_rise (suc n) ts r)
  where
    go : (b : Bool) → suc n ≤ step_from (suc n) ts r → n ≤ (if b then n else step_from (suc n) ts r)
    go true h = omega arith
    go false h = omega arith

served_rises : (n : ℕ) (ts : List Step) (rs : List Placed) → n ≤ (served_from n ts rs).step
unfolding served_from serving
served_rises n [] rs = omega arith
served_rises n (t ∷ ts) rs = go (those (λ p. t.takes p.it) rs) (served_rises (suc n) ts rs)
  where
    go : (xs : List Placed) → suc n ≤ (served_from (suc n) ts rs).step → n ≤ (serving n t xs (served_from (suc n) ts rs)).step
    go [] h = omega arith
    go (x ∷ xs) h = omega arith

module _ (mask : ℕ) (p : Placed) where
  one_more : (n : ℕ) (ts : List Step) (ps : List Placed)
      → counted (as_tally mask (served_from n ts ps)) (step_from n ts p.it) p ≡ as_tally mask (served_from n ts (ps ++ (p ∷ [])))
  unfolding counted as_tally served_from serving step_from with_union first those
  one_more n [] ps = simp (lt-ltb n (suc n) (omega arith))
  one_more n (t ∷ ts) ps =
      rw (those_append (λ (q : Placed). t.takes q.it) ps (p ∷ []))
      (go (those (λ q. t.takes q.it) ps) (t.takes p.it) (one_more (suc n) ts ps))
    where
      later : ℕ
      later = step_from (suc n) ts p.it

      go : (xs : List Placed) (b : Bool)
          → counted (as_tally mask (served_from (suc n) ts ps)) later p ≡ as_tally mask (served_from (suc n) ts (ps ++ (p ∷ [])))
          → counted (as_tally mask (serving n t xs (served_from (suc n) ts ps))) (if b then n else later) p
          ≡ as_tally mask (serving n t (xs ++ cond b (p ∷ []) []) (served_from (suc n) ts (ps ++ (p ∷ []))))
      go [] false ih = ih
      go [] true ih =
          let h = served_rises (suc n) ts ps in
          simp (le-ltb (served_from (suc n) ts ps).step n (omega arith), ne_eqb (served_from (suc n) ts ps).step n (λ e. omega arith), union_one)
      go (x ∷ xs) false ih =
          simp (lt-ltb n later (steps_rise (suc n) ts p.it))
          (ap (λ (ys : List Placed). as_tally mask (serving n t (x ∷ ys) (served_from (suc n) ts (ps ++ (p ∷ []))))) (sym (append-nil xs)))
      go (x ∷ xs) true ih =
          simp (le-ltb n n (omega arith), eq-eqb n n refl)
          (ap (λ (y : ℕ). record { step = n; rights = y; start = x.at; size = x.it.size; mask = mask }) (sym (union_more (x ∷ xs) p)))

-- no step takes a record
abbrev pub Untaken : List Step → Record → Type 0
Untaken ts r = Each (λ (t : Step). t.takes r ≡ false) ts

passed_over : (n : ℕ) (ts : List Step) (ps : List Placed) (p : Placed) → Untaken ts p.it → served_from n ts (ps ++ (p ∷ [])) ≡ served_from n ts ps
unfolding served_from those Each
passed_over n [] ps p u = refl
passed_over n (t ∷ ts) ps p u =
    rw (those_append (λ (q : Placed). t.takes q.it) ps (p ∷ []), u.0, append-nil, passed_over (suc n) ts ps p u.1)

-- what all records come to
unfoldable pub tally_of : List Step → List Placed → Tally
tally_of ts rs = as_tally (masking rs 255) (served_from 1 ts rs)

pub masking_append : (ps qs : List Placed) (x : ℕ) → masking (ps ++ qs) x ≡ masking qs (masking ps x)
unfolding masking
masking_append ps qs x = rw (those_append is_mask ps qs, foldl-append)

module _ (ts : List Step) (unmasked : (r : Record) → r.kind ≡ 5 → Untaken ts r) where
  with_one : (ps : List Placed) (p : Placed) → tallied (tally_of ts ps) (step_from 1 ts p.it) p ≡ tally_of ts (ps ++ (p ∷ []))
  unfolding tallied tally_of as_tally with_mask is_mask masking those
  with_one ps p = rw (masking_append ps (p ∷ []) 255) (go (is_mask p) refl)
    where
      go : (b : Bool) → is_mask p ≡ b
          → (if b then with_mask (tally_of ts ps) p.it else counted (tally_of ts ps) (step_from 1 ts p.it) p)
          ≡ as_tally (masking (p ∷ []) (masking ps 255)) (served_from 1 ts (ps ++ (p ∷ [])))
      go true q = rw (passed_over 1 ts ps p (unmasked p.it (eqb-true p.it.kind 5 q)), q)
      go false q = rw q (one_more (masking ps 255) p 1 ts ps)

  pub all_counted : (ps rs : List Placed) → foldl (tallying ts) (tally_of ts ps) rs ≡ tally_of ts (ps ++ rs)
  all_counted ps [] = rw append-nil refl
  all_counted ps (p ∷ rs) = rw (with_one ps p) (all_counted (ps ++ (p ∷ [])) rs ∙ ap (tally_of ts) (append_assoc ps (p ∷ []) rs))
