-- The lowest slot that passes a test, as a search finds it. Assumes nothing.
use Rattle.std.specs.Prelude.{None, Some, position}
use mathlib.Core.Path.{◌≡◌, refl, sym, ◌∙◌, ap}
use mathlib.Core.Bool.{Bool, true, false}
use mathlib.Core.List.{List, [], ◌∷◌, ◌++◌, map}
use Prim.Native.Nat.{ℕ, ◌+◌, ◌<◌}
use native.Mathlib.Omega.{arith}
use lib.ListN.{length, drop, length-append, length-map}
use Rattle.words.proofs.Tests.{map_append}
use Rattle.table.specs.Layout.{width, slot_of, slots_in, table_of}
use Rattle.table.specs.declared.slot.Slot.{Slot}
use Rattle.table.proofs.Slots.{Passing, cuts, none_passed, at_slot, one_passed, all_passed}
use Rattle.table.proofs.Places.{position_more, position_here}

-- none of the slots that the loop has passed, which are i, passes the test
pub record Missed (bytes : List ℕ) (test : Slot → Bool) (size : ℕ) (rest : List ℕ) (i : ℕ) : Type 0 where
  pub slots : Passing (slots_in bytes) size rest
  pub at : i ≡ length slots.passed
  pub none : position test (map slot_of slots.passed) ≡ None

module _ {bytes : List ℕ} (test : Slot → Bool) where
  pub none_missed : {size : ℕ} {rest : List ℕ} {i : ℕ} → size ≡ width → rest ≡ drop width bytes → i ≡ 0 → Missed bytes test size rest i
  unfolding none_passed
  none_missed w r z = record { slots = none_passed bytes w r; at = z; none = refl }

  module _ {size : ℕ} {rest : List ℕ} {i : ℕ} (so_far : Missed bytes test size rest i) where
    module _ (slot more : List ℕ) (given : (rest ≡ slot ++ more) × (length slot ≡ size)) {b : Bool} {value : Slot} (told : b ≡ test value) (read : value ≡ slot_of slot) where
      before : List Slot
      before = map slot_of so_far.slots.passed

      pub one_missed : {size' : ℕ} {i' : ℕ} → b ≡ false → size' ≡ size → i' ≡ i + 1 → Missed bytes test size' more i'
      unfolding one_passed before
      one_missed bad w n =
          let passed = so_far.slots.passed in
          let fails : test (slot_of slot) ≡ false = rw (← read, ← told) bad in
          record {
            slots = one_passed so_far.slots slot more given w;
            at = n ∙ omega (arith, so_far.at, length-append passed (slot ∷ []));
            none = ap (position test) (map_append slot_of passed (slot ∷ [])) ∙ position_more test before (slot_of slot) ∙ rw (fails, so_far.none) refl;
          }

      pub found_here : {i' : ℕ} → b ≡ true → i' ≡ i → Some i' ≡ position test (table_of bytes).slots
      unfolding table_of before
      found_here good n =
          let passed = so_far.slots.passed in
          let passes : test (slot_of slot) ≡ true = rw (← read, ← told) good in
          let long : i ≡ length before = so_far.at ∙ sym (length-map passed slot_of) in
          ap Some (n ∙ long)
          ∙ sym (ap (λ (slots : List (List ℕ)). position test (map slot_of slots)) (at_slot so_far.slots slot more given)
          ∙ ap (position test) (map_append slot_of passed (slot ∷ cuts more))
          ∙ position_here test before (map slot_of (cuts more)) (slot_of slot) so_far.none passes)

    pub found_nowhere : length rest < size → None ≡ position test (table_of bytes).slots
    unfolding table_of
    found_nowhere h = sym so_far.none ∙ ap (λ (slots : List (List ℕ)). position test (map slot_of slots)) (sym (all_passed so_far.slots h))
