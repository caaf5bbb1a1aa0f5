-- Each slot beside those before it. Assumes nothing.
use mathlib.Core.Path.{◌≡◌, refl, sym, ◌∙◌, ap}
use mathlib.Core.Bool.{Bool, true, false, cond, ◌&&◌, and-false}
use mathlib.Core.List.{List, [], ◌∷◌, ◌++◌, map, append_assoc}
use Prim.Native.Nat.{ℕ, zero, suc, ◌+◌, ◌-◌, ◌*◌, ◌/◌, ◌≤◌, ◌<◌}
use native.Mathlib.Omega.{arith}
use lib.ListN.{length, take, drop, length-append, length-drop}
use lib.Seq.{take-add, take_at, drop_at, take-append-le, take_all, length-take-le}
use Rattle.words.specs.Test.{all_of}
use Rattle.words.proofs.Tests.{differ, all_append, map_append}
use Rattle.table.specs.Layout.{width, slot_of, cut, count, slots_in, table_of}
use Rattle.table.specs.declared.slot.Slot.{Slot}
use Rattle.table.specs.declared.slot.Slot.TheVariants.{Free, Held}
use Rattle.table.proofs.Cuts.{slots_length}
use Rattle.table.proofs.Slots.{Passing, cuts, none_passed, none_of, at_slot, one_passed, all_passed}
use Rattle.audit.specs.Audit.{apart, all_apart}
use Rattle.audit.specs.Before.{slots_of}

-- one slot more
apart_more : (slots : List Slot) (slot : Slot) → all_apart (slots ++ (slot ∷ [])) ≡ (all_apart slots && all_of (λ before. apart before slot) slots)
unfolding all_apart all_of
apart_more [] slot = refl
apart_more (s ∷ ss) slot =
    rw (all_append (apart s) ss (slot ∷ []), apart_more ss slot)
    (go (all_of (apart s) ss) (apart s slot) (all_apart ss) (all_of (λ before. apart before slot) ss))
  where
    go : (a b c d : Bool) → ((a && cond b true false) && (c && d)) ≡ ((a && c) && cond b d false)
    go true true c d = refl
    go true false c d = sym (and-false c)
    go false b c d = refl

apart_prefix : (slots more : List Slot) → all_apart slots ≡ false → all_apart (slots ++ more) ≡ false
unfolding all_apart all_of
apart_prefix [] more e = absurd (differ e)
apart_prefix (s ∷ ss) more e =
    rw (all_append (apart s) ss more) (go (all_of (apart s) ss) (all_of (apart s) more) (all_apart ss) refl e (apart_prefix ss more))
  where
    go : (a b c : Bool) → all_apart ss ≡ c → (a && c) ≡ false → (all_apart ss ≡ false → all_apart (ss ++ more) ≡ false) → ((a && b) && all_apart (ss ++ more)) ≡ false
    go true b c q e later = rw (later (q ∙ e)) (and-false (true && b))
    go false b c q e later = refl

-- the first i slots of bytes
cut_take : (i n : ℕ) (bytes : List ℕ) → i ≤ n → width * n ≤ length bytes → cut i (take (width * i) bytes) ≡ take i (cut n bytes)
unfolding cut
cut_take zero n bytes h k = refl
cut_take (suc i) zero bytes h k = absurd (omega arith)
cut_take (suc i) (suc n) bytes h k =
    let e : width * suc i ≡ width + width * i = omega arith in
    let one : take (width * suc i) bytes ≡ take width bytes ++ take (width * i) (drop width bytes) = ap (λ (m : ℕ). take m bytes) e ∙ take-add width (width * i) bytes in
    let long : length (take width bytes) ≡ width = length-take-le width bytes (omega arith) in
    rw (one, take_at (take width bytes) (take (width * i) (drop width bytes)) width long, drop_at (take width bytes) (take (width * i) (drop width bytes)) width long)
    (ap (λ (slots : List (List ℕ)). take width bytes ∷ slots) (cut_take i n (drop width bytes) (omega arith) (omega (arith, length-drop width bytes))))

-- the slots that the loop has passed, each beside those before it
pub record Clear (bytes : List ℕ) (size : ℕ) (rest : List ℕ) (i : ℕ) : Type 0 where
  pub slots : Passing (slots_in bytes) size rest
  pub at : i ≡ length slots.passed
  pub so_far : all_apart (map slot_of slots.passed) ≡ true

module _ (bytes : List ℕ) where
  pub none_clear : {size : ℕ} {rest : List ℕ} {i : ℕ} → size ≡ width → rest ≡ drop width bytes → i ≡ 0 → Clear bytes size rest i
  unfolding all_apart none_passed
  none_clear w r z = record { slots = none_passed bytes w r; at = z; so_far = refl }

  module _ {size : ℕ} {rest : List ℕ} {i : ℕ} (c : Clear bytes size rest i) where
    module _ (slot more : List ℕ) (given : (rest ≡ slot ++ more) × (length slot ≡ size)) {j : ℕ} (place : j ≡ i) where
      -- the bytes before it are there
      pub before_ends : width * (j + 1) ≤ length bytes
      before_ends = omega (arith, place, c.at, slots_length bytes, ap length (at_slot c.slots slot more given), length-append c.slots.passed (slot ∷ cuts more))

      passed_before : slots_of (take (width * (j + 1) - width) (drop width bytes)) ≡ map slot_of c.slots.passed
      unfolding slots_of slots_in
      passed_before =
          let n : width * (j + 1) - width ≡ width * j = omega arith in
          let long : length (take (width * j) (drop width bytes)) ≡ width * j = length-take-le (width * j) (drop width bytes) (omega (arith, length-drop width bytes, before_ends)) in
          let m : length (take (width * j) (drop width bytes)) / width ≡ j = omega (arith, long) in
          let e : j ≡ length c.slots.passed = place ∙ c.at in
          rw (n, m) (ap (map slot_of) (cut_take j (count bytes) (drop width bytes) (omega (arith, before_ends)) (omega (arith, length-drop width bytes))
          ∙ ap (take j) c.slots.whole ∙ rw e (take-append-le (length c.slots.passed) c.slots.passed (cuts rest) (omega arith) ∙ take_all (length c.slots.passed) c.slots.passed (omega arith))))

      module _ {b : Bool} {value : Slot} (read : value ≡ slot_of slot) (told : b ≡ all_of (λ before. apart before value) (slots_of (take (width * (j + 1) - width) (drop width bytes)))) where
        next : all_apart (map slot_of (c.slots.passed ++ slot ∷ [])) ≡ b
        next =
            ap all_apart (map_append slot_of c.slots.passed (slot ∷ []))
            ∙ apart_more (map slot_of c.slots.passed) (slot_of slot)
            ∙ rw (c.so_far, ← read, ← passed_before, ← told) refl

        pub one_clear : {size' : ℕ} {i' : ℕ} → b ≡ true → size' ≡ size → i' ≡ i + 1 → Clear bytes size' more i'
        unfolding one_passed
        one_clear good w n = record {
          slots = one_passed c.slots slot more given w;
          at = n ∙ omega (arith, c.at, length-append c.slots.passed (slot ∷ []));
          so_far = next ∙ good;
        }

        pub one_unclear : b ≡ false → false ≡ all_apart (table_of bytes).slots
        unfolding table_of
        one_unclear bad =
            sym (ap (λ (slots : List (List ℕ)). all_apart (map slot_of slots)) (at_slot c.slots slot more given ∙ sym (append_assoc c.slots.passed (slot ∷ []) (cuts more)))
            ∙ ap all_apart (map_append slot_of (c.slots.passed ++ slot ∷ []) (cuts more))
            ∙ apart_prefix (map slot_of (c.slots.passed ++ slot ∷ [])) (map slot_of (cuts more)) (next ∙ bad))

    pub all_clear : length rest < size → true ≡ all_apart (table_of bytes).slots
    unfolding table_of
    all_clear h = sym c.so_far ∙ ap (λ (slots : List (List ℕ)). all_apart (map slot_of slots)) (sym (all_passed c.slots h))

-- a free slot is apart from all
pub free_apart : (slots : List Slot) → true ≡ all_of (λ before. apart before Free) slots
unfolding all_of apart
free_apart [] = refl
free_apart (Free ∷ ss) = free_apart ss
free_apart (Held number claim ∷ ss) = free_apart ss

-- one token beside the slots that the loop has passed
pub record Beside (before : List ℕ) (slot : Slot) (size : ℕ) (rest : List ℕ) : Type 0 where
  pub slots : Passing (cuts before) size rest
  pub so_far : all_of (λ other. apart other slot) (map slot_of slots.passed) ≡ true

module _ {before : List ℕ} (slot : Slot) where
  pub none_beside : {size : ℕ} {rest : List ℕ} → size ≡ width → rest ≡ before → Beside before slot size rest
  unfolding all_of none_of
  none_beside w r = record { slots = none_of before w r; so_far = refl }

  module _ {size : ℕ} {rest : List ℕ} (c : Beside before slot size rest) where
    module _ (bytes more : List ℕ) (given : (rest ≡ bytes ++ more) × (length bytes ≡ size)) {b : Bool} {other : Slot} (read : other ≡ slot_of bytes) (told : b ≡ apart other slot) where
      pub one_beside : {size' : ℕ} → b ≡ true → size' ≡ size → Beside before slot size' more
      unfolding all_of one_passed
      one_beside good w = record {
        slots = one_passed c.slots bytes more given w;
        so_far = ap (all_of (λ other. apart other slot)) (map_append slot_of c.slots.passed (bytes ∷ []))
            ∙ all_append (λ other. apart other slot) (map slot_of c.slots.passed) (slot_of bytes ∷ []) ∙ rw (c.so_far, ← read, ← told, good) refl;
      }

      pub one_against : b ≡ false → false ≡ all_of (λ other. apart other slot) (slots_of before)
      unfolding all_of slots_of cuts
      one_against bad =
          sym (ap (λ (slots : List (List ℕ)). all_of (λ other. apart other slot) (map slot_of slots)) (at_slot c.slots bytes more given)
          ∙ ap (all_of (λ other. apart other slot)) (map_append slot_of c.slots.passed (bytes ∷ cuts more))
          ∙ all_append (λ other. apart other slot) (map slot_of c.slots.passed) (slot_of bytes ∷ map slot_of (cuts more)) ∙ rw (c.so_far, ← read, ← told, bad) refl)

    pub all_beside : length rest < size → true ≡ all_of (λ other. apart other slot) (slots_of before)
    unfolding slots_of cuts
    all_beside h = sym c.so_far ∙ ap (λ (slots : List (List ℕ)). all_of (λ other. apart other slot) (map slot_of slots)) (sym (all_passed c.slots h))
