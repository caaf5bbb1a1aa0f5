-- The step that decides is the first that applies. Assumes nothing.
use mathlib.Core.Path.{◌≡◌, refl, sym, ◌∙◌, ap}
use mathlib.Core.List.{List, [], ◌∷◌, ◌++◌, append-nil}
use mathlib.Core.Bool.{Bool, true, false, cond}
use Prim.Native.Nat.{ℕ, suc, ◌+◌}
use native.Mathlib.Omega.{arith}
use lib.ListN.{length}
use Rattle.words.specs.Test.{any_of, those}
use Rattle.words.proofs.Tests.{Each}
use Rattle.list.specs.Checking.{Placed}
use Rattle.evaluate.specs.Steps.{Step, Served, serving, served_from, served}

-- some record serves the step
unfoldable pub applies : Step → List Placed → Bool
applies t rs = any_of (λ (p : Placed). t.takes p.it) rs

abbrev pub NoneApplies : List Step → List Placed → Type 0
NoneApplies ts rs = Each (λ (t : Step). applies t rs ≡ false) ts

those_none : (test : Placed → Bool) (rs : List Placed) → any_of test rs ≡ false → those test rs ≡ []
unfolding any_of those
those_none test [] q = refl
those_none test (r ∷ rs) q = go (test r) (those_none test rs) q
  where
    go : (b : Bool) → (any_of test rs ≡ false → those test rs ≡ []) → cond b true (any_of test rs) ≡ false → cond b (r ∷ those test rs) (those test rs) ≡ []
    go true ih q = let z : ◌≡◌ {A = ℕ} 0 1 = cc in absurd (omega arith)
    go false ih q = ih q

serving_some : (n : ℕ) (t : Step) (test : Placed → Bool) (rs : List Placed) (later : Served) → any_of test rs ≡ true
    → serving n t (those test rs) later ≡ record { step = n; is_masked = t.is_masked; by = those test rs }
unfolding any_of those serving
serving_some n t test [] later q = let z : ◌≡◌ {A = ℕ} 0 1 = cc in absurd (omega arith)
serving_some n t test (r ∷ rs) later q = go (test r) (serving_some n t test rs later) q
  where
    go : (b : Bool) → (any_of test rs ≡ true → serving n t (those test rs) later ≡ record { step = n; is_masked = t.is_masked; by = those test rs }) → cond b true (any_of test rs) ≡ true
        → serving n t (cond b (r ∷ those test rs) (those test rs)) later ≡ record { step = n; is_masked = t.is_masked; by = cond b (r ∷ those test rs) (those test rs) }
    go true ih q = refl
    go false ih q = ih q

module _ (rs : List Placed) where
  pub skipped : (n : ℕ) (earlier ts : List Step) → NoneApplies earlier rs → served_from n (earlier ++ ts) rs ≡ served_from (n + length earlier) ts rs
  unfolding Each applies served_from serving
  skipped n [] ts none = let e : n ≡ n + 0 = omega arith in ap (λ (k : ℕ). served_from k ts rs) e
  skipped n (u ∷ earlier) ts none =
      let e : suc n + length earlier ≡ n + suc (length earlier) = omega arith in
      rw (those_none (λ (p : Placed). u.takes p.it) rs none.0) (skipped (suc n) earlier ts none.1 ∙ ap (λ (k : ℕ). served_from k ts rs) e)

  -- after steps of which none applies, the first that does decides, by all records that serve it
  pub first_decides : (earlier : List Step) (t : Step) (later : List Step) → NoneApplies earlier rs → applies t rs ≡ true
      → served (earlier ++ (t ∷ later)) rs ≡ record { step = 1 + length earlier; is_masked = t.is_masked; by = those (λ p. t.takes p.it) rs }
  unfolding applies served_from
  first_decides earlier t later none some =
      skipped 1 earlier (t ∷ later) none
      ∙ serving_some (1 + length earlier) t (λ (p : Placed). t.takes p.it) rs (served_from (suc (1 + length earlier)) later rs) some

  -- where none applies, nothing decides
  pub nothing_decides : (ts : List Step) → NoneApplies ts rs → served ts rs ≡ record { step = 1 + length ts; is_masked = false; by = [] }
  unfolding served_from
  nothing_decides ts none = ap (λ (us : List Step). served_from 1 us rs) (sym (append-nil ts)) ∙ skipped 1 ts [] none
