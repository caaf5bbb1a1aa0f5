-- The slots of a table one by one. Assumes nothing.
use mathlib.Core.Path.{◌≡◌, refl, ◌∙◌, ap}
use mathlib.Core.Bool.{true, ◌&&◌}
use mathlib.Core.List.{List, [], ◌∷◌, ◌++◌}
use Prim.Native.Nat.{ℕ, zero, suc, ◌+◌, ◌*◌, ◌%◌, ◌≤◌, ◌<◌}
use native.Mathlib.Numerals.{add-one}
use native.Mathlib.Omega.{arith}
use borrow.Author.Tests.{leb-true, eqb-true}
use lib.Dec.{leb, eqb}
use lib.ListN.{length, get_or, take, drop, length-map, get_or-map}
use lib.Seq.{take-suc, split_at, drop-drop}
use Rattle.words.specs.Number.{part}
use Rattle.words.proofs.Tests.{and_left, and_right}
use Rattle.table.specs.Layout.{width, kind_of, slot_of, cut, count, slots_in, table_of}
use Rattle.table.specs.Form.{is_length}
use Rattle.table.specs.declared.slot.Slot.{Slot}
use Rattle.table.specs.declared.slot.Slot.TheVariants.{Free}

-- what a right length tells
pub record Sized (bytes : List ℕ) : Type 0 where
  pub whole : length bytes ≡ width * (count bytes + 1)
  pub some : 1 ≤ count bytes
  pub few : count bytes ≤ 1024

pub sized : (bytes : List ℕ) → is_length (length bytes) ≡ true → Sized bytes
unfolding is_length
sized bytes e =
    let n = length bytes in
    let front = and_left (eqb (n % width) 0 && leb (width * 2) n) (leb n (width * 1025)) e in
    let none = eqb-true (n % width) 0 (and_left (eqb (n % width) 0) (leb (width * 2) n) front) in
    let least = leb-true (width * 2) n (and_right (eqb (n % width) 0) (leb (width * 2) n) front) in
    let most = leb-true n (width * 1025) (and_right (eqb (n % width) 0 && leb (width * 2) n) (leb n (width * 1025)) e) in
    record { whole = omega arith; some = omega arith; few = omega arith }

pub cut_length : (n : ℕ) (bytes : List ℕ) → length (cut n bytes) ≡ n
unfolding cut
cut_length zero bytes = refl
cut_length (suc n) bytes = ap suc (cut_length n (drop width bytes))

cut_at : (n : ℕ) (bytes : List ℕ) (i : ℕ) → i < n → get_or (cut n bytes) i [] ≡ part (width * i) width bytes
unfolding cut
cut_at zero bytes i h = absurd (omega arith)
cut_at (suc n) bytes zero h = refl
cut_at (suc n) bytes (suc i) h =
    let e : width + width * i ≡ width * suc i = omega arith in
    cut_at n (drop width bytes) i (omega arith) ∙ ap (take width) (drop-drop (width * i) width bytes ∙ ap (λ (k : ℕ). drop k bytes) e)

module _ (bytes : List ℕ) where
  pub slots_length : length (slots_in bytes) ≡ count bytes
  unfolding slots_in
  slots_length = cut_length (count bytes) (drop width bytes)

  pub table_length : length (table_of bytes).slots ≡ count bytes
  unfolding table_of
  table_length = length-map (slots_in bytes) slot_of ∙ slots_length

  module _ (i : ℕ) (h : i < count bytes) where
    slots_at : get_or (slots_in bytes) i [] ≡ part (width * (i + 1)) width bytes
    unfolding slots_in
    slots_at =
        let e : width + width * i ≡ width * (i + 1) = omega arith in
        cut_at (count bytes) (drop width bytes) i h ∙ ap (take width) (drop-drop (width * i) width bytes ∙ ap (λ (k : ℕ). drop k bytes) e)

    -- the slots up to one and it, as bytes and as what they say
    pub slots_more : take (i + 1) (slots_in bytes) ≡ take i (slots_in bytes) ++ (part (width * (i + 1)) width bytes ∷ [])
    slots_more =
        ap (λ (k : ℕ). take k (slots_in bytes)) (add-one i)
        ∙ take-suc (slots_in bytes) i [] (rw slots_length h)
        ∙ ap (λ (x : List ℕ). take i (slots_in bytes) ++ (x ∷ [])) slots_at

    pub slots_split : slots_in bytes ≡ take i (slots_in bytes) ++ part (width * (i + 1)) width bytes ∷ drop (suc i) (slots_in bytes)
    slots_split =
        split_at (slots_in bytes) i [] (rw slots_length h)
        ∙ ap (λ (x : List ℕ). take i (slots_in bytes) ++ x ∷ drop (suc i) (slots_in bytes)) slots_at

    pub table_at : get_or (table_of bytes).slots i Free ≡ slot_of (part (width * (i + 1)) width bytes)
    unfolding table_of slot_of kind_of
    table_at = get_or-map slot_of (slots_in bytes) i [] ∙ ap slot_of slots_at

    pub table_more : take (i + 1) (table_of bytes).slots ≡ take i (table_of bytes).slots ++ (slot_of (part (width * (i + 1)) width bytes) ∷ [])
    table_more =
        ap (λ (k : ℕ). take k (table_of bytes).slots) (add-one i)
        ∙ take-suc (table_of bytes).slots i Free (rw table_length h)
        ∙ ap (λ (x : Slot). take i (table_of bytes).slots ++ (x ∷ [])) table_at

    pub table_split : (table_of bytes).slots ≡ take i (table_of bytes).slots ++ slot_of (part (width * (i + 1)) width bytes) ∷ drop (suc i) (table_of bytes).slots
    table_split =
        split_at (table_of bytes).slots i Free (rw table_length h)
        ∙ ap (λ (x : Slot). take i (table_of bytes).slots ++ x ∷ drop (suc i) (table_of bytes).slots) table_at
