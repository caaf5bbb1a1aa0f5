-- Where the mask is: every step but 1 and 4. Assumes nothing.
use Rattle.std.specs.Prelude.{if◌then◌else◌}
use mathlib.Core.Path.{◌≡◌, refl, sym, ◌∙◌, ap}
use mathlib.Core.List.{List, [], ◌∷◌, ◌++◌, foldl}
use mathlib.Core.Bool.{Bool, true, false, not, ◌||◌}
use Prim.Native.Nat.{ℕ, ◌<◌}
use native.Mathlib.Nat.{mod-eq_of_lt}
use borrow.Author.Tests.{ne_eqb}
use lib.Bits.{bit_and, and_zero_l, and_mask}
use lib.Dec.{eqb}
use Rattle.words.specs.Test.{those}
use Rattle.words.specs.Bit.{bit}
use Rattle.words.proofs.Tests.{and_left, and_right}
use Rattle.words.proofs.Bits.{bit-bit_and, and_assoc}
use Rattle.list.specs.Checking.{Placed}
use Rattle.evaluate.specs.Steps.{Step, masked, unmasked, steps, Served, serving, served_from, served, union, is_mask, masking, rights_by}
use Rattle.evaluate.specs.Tally.{allowed}
use Rattle.evaluate.specs.declared.asking.Caller.{Caller}
use Rattle.evaluate.specs.declared.asking.File.{File}
use Rattle.evaluate.specs.declared.tally.Tally.{Tally}
use Rattle.evaluate.proofs.Counting.{as_tally, masking_append}

-- the rights that each of some records has
unfoldable pub kept : ℕ → List Placed → ℕ
kept = foldl (λ (y : ℕ) (p : Placed). bit_and y p.it.rights)

kept_apart : (ms : List Placed) (x y : ℕ) → kept (bit_and x y) ms ≡ bit_and x (kept y ms)
unfolding kept
kept_apart [] x y = refl
kept_apart (m ∷ ms) x y = rw (and_assoc x y m.it.rights) (kept_apart ms x (bit_and y m.it.rights))

-- a mask that was kept apart, from all eight bits on, masks at last
masked_last : (rs : List Placed) (x : ℕ) → x < 256 → bit_and x (masking rs 255) ≡ masking rs x
unfolding masking kept
masked_last rs x h =
    sym (kept_apart (those is_mask rs) x 255) ∙ ap (λ (y : ℕ). kept y (those is_mask rs)) (and_mask x 8 ∙ mod-eq_of_lt h)

nothing_masked : (ms : List Placed) → kept 0 ms ≡ 0
unfolding kept
nothing_masked [] = refl
nothing_masked (m ∷ ms) = rw (and_zero_l m.it.rights) (nothing_masked ms)

-- masking takes rights away and gives none
still_there : (ms : List Placed) (x i : ℕ) → bit i (kept x ms) ≡ true → bit i x ≡ true
unfolding kept
still_there [] x i t = t
still_there (m ∷ ms) x i t =
    let u = still_there ms (bit_and x m.it.rights) i t in
    and_left (bit i x) (bit i m.it.rights) (sym (bit-bit_and i x m.it.rights) ∙ u)

at_mask : (ps : List Placed) (m : Placed) (qs : List Placed) (x : ℕ) → is_mask m ≡ true
    → (i : ℕ) → bit i (masking (ps ++ (m ∷ qs)) x) ≡ true → bit i m.it.rights ≡ true
unfolding masking those kept
at_mask ps m qs x q i t =
    let y = masking ps x in
    let s : bit i (kept (bit_and y m.it.rights) (those is_mask qs)) ≡ true = rw (masking_append ps (m ∷ qs) x, q) at t in
    and_right (bit i y) (bit i m.it.rights) (sym (bit-bit_and i y m.it.rights) ∙ still_there (those is_mask qs) (bit_and y m.it.rights) i s)

abbrev is_unmasked : ℕ → Bool
is_unmasked step = eqb step 1 || eqb step 4

-- what a tally allows, by its step
module _ (t : Tally) where
  pub unmasked_allowed : is_unmasked t.step ≡ true → t.rights ≡ allowed t
  unfolding allowed
  unmasked_allowed q = simp q

  pub masked_allowed : is_unmasked t.step ≡ false → bit_and t.rights t.mask ≡ allowed t
  unfolding allowed
  masked_allowed q = simp q

module _ (rs : List Placed) where
  Rule : Served → Type 0
  Rule s = rights_by s rs ≡ (if is_unmasked s.step then union s.by else masking rs (union s.by))

  by_step : (n : ℕ) (t : Step) → t.is_masked ≡ not (is_unmasked n) → (ps : List Placed) (later : Served) → Rule later → Rule (serving n t ps later)
  unfolding Rule rights_by serving
  by_step n t q [] later rule = rule
  by_step n t q (p ∷ ps) later rule = rw q (go (is_unmasked n))
    where
      go : (b : Bool) → (if not b then masking rs (union (p ∷ ps)) else union (p ∷ ps)) ≡ (if b then union (p ∷ ps) else masking rs (union (p ∷ ps)))
      go true = refl
      go false = refl

  by_none : Rule (record { step = 7; is_masked = false; by = [] })
  unfolding Rule rights_by union masking kept
  by_none = sym (nothing_masked (those is_mask rs))

  module _ (home : Bool) (groups : List ℕ) (caller : Caller) (file : File) where
    abbrev deciding : Served
    deciding = served (steps home groups caller file) rs

    rule : Rule deciding
    unfolding steps served_from masked unmasked
    rule = by_step 1 _ refl _ _ (by_step 2 _ refl _ _ (by_step 3 _ refl _ _ (by_step 4 _ refl _ _ (by_step 5 _ refl _ _ (by_step 6 _ refl _ _ by_none)))))

    -- the rights that a pass allows are those of the step that decides
    pub all_allowed : union deciding.by < 256 → allowed (as_tally (masking rs 255) deciding) ≡ rights_by deciding rs
    unfolding Rule allowed as_tally
    all_allowed h = rw (rule, masked_last rs (union deciding.by) h)

    -- a step other than 1 and 4 never gives more than a mask_obj of the list has
    pub within_mask : (deciding.step ≡ 1 → ⊥) → (deciding.step ≡ 4 → ⊥)
        → (ps : List Placed) (m : Placed) (qs : List Placed) → rs ≡ ps ++ (m ∷ qs) → is_mask m ≡ true
        → (i : ℕ) → bit i (rights_by deciding rs) ≡ true → bit i m.it.rights ≡ true
    unfolding Rule
    within_mask one four ps m qs e q i t =
        let x = union deciding.by in
        let r : rights_by deciding rs ≡ masking rs x = rw (rule, ne_eqb deciding.step 1 one, ne_eqb deciding.step 4 four) in
        let s : bit i (masking (ps ++ (m ∷ qs)) x) ≡ true = rw (← e, ← r) t in
        at_mask ps m qs x q i s
