-- A table in bytes, both ways, and a slot or the next number changed in place. Assumes nothing.
use mathlib.Core.Path.{◌≡◌, refl, sym, ◌∙◌, ap, ap₂}
use mathlib.Core.Bool.{true, ◌&&◌}
use mathlib.Core.List.{List, [], ◌∷◌, ◌++◌, map, append-nil}
use Prim.Native.Nat.{ℕ, zero, suc, ◌+◌, ◌*◌, ◌≤◌, ◌<◌}
use native.Mathlib.Nat.{le_of_eq}
use native.Mathlib.Omega.{arith}
use borrow.Author.Tests.{eqb-true}
use lib.Dec.{eqb}
use lib.ListN.{length, get_or, take, drop, set, replicate, length-append, length-take, length-drop, take-append-drop, drop_of_length-le}
use lib.Seq.{take_at, drop_at, take-add, drop-drop, get_or-drop}
use Rattle.words.specs.Number.{Bytes, part}
use Rattle.words.specs.Writing.{digits, over}
use Rattle.words.proofs.Tests.{Each, all_each, and_left, and_right}
use Rattle.words.proofs.Digits.{part_bytes}
use Rattle.words.proofs.Written.{digits_length, over_front, over_back, over_start}
use Rattle.table.specs.Table.{Table, limit, put}
use Rattle.table.specs.Layout.{width, kind_of, slot_of, slot_bytes, cut, count, slots_in, next_in, header_bytes, table_of, joined, bytes_of}
use Rattle.table.specs.Form.{is_length, all_zero, is_header, is_slot, opening, well_formed}
use Rattle.table.specs.declared.slot.Slot.{Slot}
use Rattle.table.specs.declared.slot.Slot.TheVariants.{Free}
use Rattle.table.proofs.Widths.{slot_length}
use Rattle.table.proofs.Cuts.{Sized, sized}
use Rattle.table.proofs.Forms.{opening_length}
use Rattle.table.proofs.Spelled.{slot_spelled, zeroes_are, first_byte, longer}

-- bytes cut into slots are those slots one after the other
cut_joined : (n : ℕ) (bytes : List ℕ) → length bytes ≡ width * n → joined (cut n bytes) ≡ bytes
unfolding cut joined
cut_joined zero [] e = refl
cut_joined zero (x ∷ xs) e = absurd (omega arith)
cut_joined (suc n) bytes e =
    ap (λ (xs : List ℕ). take width bytes ++ xs) (cut_joined n (drop width bytes) (rw (length-drop width bytes) (omega arith)))
    ∙ take-append-drop width bytes

pub drop_bytes : (n : ℕ) (s : List ℕ) → Bytes s → Bytes (drop n s)
drop_bytes n s h i = rw get_or-drop (h (n + i))

pub cut_bytes : (n : ℕ) (bytes : List ℕ) → Bytes bytes → Each Bytes (cut n bytes)
unfolding cut Each
cut_bytes zero bytes h = tt
cut_bytes (suc n) bytes h = (part_bytes 0 width bytes h, cut_bytes n (drop width bytes) (drop_bytes width bytes h))

-- slots that are well formed are spelled as they stood
spelled_slots : (top next : ℕ) (pieces : List (List ℕ)) → Each (λ p. is_slot top next p ≡ true) pieces → Each Bytes pieces
    → joined (map slot_bytes (map slot_of pieces)) ≡ joined pieces
unfolding Each joined
spelled_slots top next [] e h = refl
spelled_slots top next (p ∷ ps) e h =
    ap₂ {C = List ℕ} (λ (x y : List ℕ). x ++ y) (slot_spelled top next p e.0 h.0) (spelled_slots top next ps e.1 h.1)

header_spelled : (bytes : List ℕ) → Bytes bytes → width ≤ length bytes → is_header bytes ≡ true → header_bytes (next_in bytes) ≡ take width bytes
unfolding header_bytes next_in is_header
header_spelled bytes h l e =
    let front = and_left (eqb (kind_of bytes) 2 && all_zero (part 1 32 bytes)) _ e in
    let kind = first_byte bytes 2 (omega arith) (eqb-true (kind_of bytes) 2 (and_left (eqb (kind_of bytes) 2) (all_zero (part 1 32 bytes)) front)) in
    let size : length (part 1 32 bytes) ≡ 32 = simp (length-take, length-drop) (omega arith) in
    let zeroes = zeroes_are (part 1 32 bytes) (and_right (eqb (kind_of bytes) 2) (all_zero (part 1 32 bytes)) front) ∙ ap (λ (n : ℕ). replicate n 0) size in
    let both : (2 ∷ []) ++ replicate 32 0 ≡ take 33 bytes = ap₂ {C = List ℕ} (λ (x y : List ℕ). x ++ y) kind (sym zeroes) ∙ sym (take-add 1 32 bytes) in
    longer 33 8 bytes _ h (omega arith) both

-- what a well-formed table tells
module _ (bytes : List ℕ) (e : well_formed bytes ≡ true) where
  begins : opening bytes ≡ true
  unfolding well_formed
  begins = and_left (opening bytes) _ e

  pub form_length : is_length (length bytes) ≡ true
  form_length = opening_length bytes begins

  pub form_size : Sized bytes
  form_size = sized bytes form_length

  pub form_header : is_header bytes ≡ true
  unfolding opening
  form_header = and_right (is_length (length bytes)) (is_header bytes) begins

  pub form_slots : Each (λ p. is_slot (limit (table_of bytes)) (next_in bytes) p ≡ true) (slots_in bytes)
  unfolding well_formed
  form_slots = all_each (is_slot (limit (table_of bytes)) (next_in bytes)) (slots_in bytes) (and_right (opening bytes) _ e)

  -- its bytes are those of the table that they mean
  pub bytes_table : Bytes bytes → bytes_of (table_of bytes) ≡ bytes
  unfolding bytes_of table_of slots_in
  bytes_table h =
      let whole = form_size.whole in
      ap₂ {C = List ℕ} (λ (x y : List ℕ). x ++ y)
      (header_spelled bytes h (omega arith) form_header)
      (spelled_slots (limit (table_of bytes)) (next_in bytes) (slots_in bytes) form_slots (cut_bytes (count bytes) (drop width bytes) (drop_bytes width bytes h))
      ∙ cut_joined (count bytes) (drop width bytes) (rw (length-drop width bytes) (omega arith)))
      ∙ take-append-drop width bytes

-- a slot written in place
set_joined : (slots : List Slot) (i : ℕ) (slot : Slot) → i < length slots
    → over (width * i) (slot_bytes slot) (joined (map slot_bytes slots)) ≡ joined (map slot_bytes (set slots i slot))
unfolding joined
set_joined [] i slot h = absurd (omega arith)
set_joined (s ∷ ss) zero slot h =
    over_start (slot_bytes slot) (slot_bytes s ++ joined (map slot_bytes ss))
    ∙ ap (λ (n : ℕ). slot_bytes slot ++ drop n (slot_bytes s ++ joined (map slot_bytes ss))) (slot_length slot)
    ∙ ap (λ (xs : List ℕ). slot_bytes slot ++ xs) (drop_at (slot_bytes s) (joined (map slot_bytes ss)) width (slot_length s))
set_joined (s ∷ ss) (suc i) slot h =
    let e : width * suc i ≡ width + width * i = omega arith in
    ap (λ (n : ℕ). over n (slot_bytes slot) (slot_bytes s ++ joined (map slot_bytes ss))) e
    ∙ over_back width (width * i) (slot_bytes slot) (slot_bytes s) (joined (map slot_bytes ss)) (slot_length s)
    ∙ ap (λ (xs : List ℕ). slot_bytes s ++ xs) (set_joined ss i slot (omega arith))

pub header_length : (next : ℕ) → length (header_bytes next) ≡ width
unfolding header_bytes
header_length next = simp (length-append, digits_length)

pub put_bytes : (t : Table) (i : ℕ) (slot : Slot) → i < length t.slots → over (width * (i + 1)) (slot_bytes slot) (bytes_of t) ≡ bytes_of (put t i slot)
unfolding bytes_of
put_bytes t i slot h =
    let e : width * (i + 1) ≡ width + width * i = omega arith in
    ap (λ (n : ℕ). over n (slot_bytes slot) (header_bytes t.next ++ joined (map slot_bytes t.slots))) e
    ∙ over_back width (width * i) (slot_bytes slot) (header_bytes t.next) (joined (map slot_bytes t.slots)) (header_length t.next)
    ∙ ap (λ (xs : List ℕ). header_bytes t.next ++ xs) (set_joined t.slots i slot h)

-- the bytes of the slot at a place
joined_at : (slots : List Slot) (i : ℕ) → i < length slots → part (width * i) width (joined (map slot_bytes slots)) ≡ slot_bytes (get_or slots i Free)
unfolding joined
joined_at [] i h = absurd (omega arith)
joined_at (s ∷ ss) zero h = take_at (slot_bytes s) (joined (map slot_bytes ss)) width (slot_length s)
joined_at (s ∷ ss) (suc i) h =
    let e : width * suc i ≡ width + width * i = omega arith in
    ap (λ (n : ℕ). part n width (slot_bytes s ++ joined (map slot_bytes ss))) e
    ∙ ap (take width) (sym (drop-drop (width * i) width (slot_bytes s ++ joined (map slot_bytes ss)))
    ∙ ap (drop (width * i)) (drop_at (slot_bytes s) (joined (map slot_bytes ss)) width (slot_length s)))
    ∙ joined_at ss i (omega arith)

pub bytes_at : (t : Table) (i : ℕ) → i < length t.slots → part (width * (i + 1)) width (bytes_of t) ≡ slot_bytes (get_or t.slots i Free)
unfolding bytes_of
bytes_at t i h =
    let e : width * (i + 1) ≡ width + width * i = omega arith in
    ap (λ (n : ℕ). part n width (header_bytes t.next ++ joined (map slot_bytes t.slots))) e
    ∙ ap (take width) (sym (drop-drop (width * i) width (header_bytes t.next ++ joined (map slot_bytes t.slots)))
    ∙ ap (drop (width * i)) (drop_at (header_bytes t.next) (joined (map slot_bytes t.slots)) width (header_length t.next)))
    ∙ joined_at t.slots i h

-- the next number written in place
next_header : (old next : ℕ) → over 33 (digits 8 next) (header_bytes old) ≡ header_bytes next
unfolding header_bytes
next_header old next =
    let front : List ℕ = (2 ∷ []) ++ replicate 32 0 in
    over_back 33 0 (digits 8 next) front (digits 8 old) refl
    ∙ ap (λ (xs : List ℕ). front ++ xs)
    (over_start (digits 8 next) (digits 8 old)
    ∙ rw (digits_length 8 next, drop_of_length-le (digits 8 old) (le_of_eq (digits_length 8 old))) (append-nil (digits 8 next)))

pub next_bytes : (t : Table) (next : ℕ) → over 33 (digits 8 next) (bytes_of t) ≡ bytes_of (record { slots = t.slots; next = next })
unfolding bytes_of
next_bytes t next =
    over_front 33 (digits 8 next) (header_bytes t.next) (joined (map slot_bytes t.slots)) (rw (header_length t.next, digits_length 8 next) (omega arith))
    ∙ ap (λ (xs : List ℕ). xs ++ joined (map slot_bytes t.slots)) (next_header t.next next)

joined_length : (slots : List Slot) → length (joined (map slot_bytes slots)) ≡ width * length slots
unfolding joined
joined_length [] = refl
joined_length (s ∷ ss) = length-append (slot_bytes s) (joined (map slot_bytes ss)) ∙ rw (slot_length s, joined_length ss) (omega arith)

pub bytes_length : (t : Table) → length (bytes_of t) ≡ width * (length t.slots + 1)
unfolding bytes_of
bytes_length t =
    length-append (header_bytes t.next) (joined (map slot_bytes t.slots)) ∙ rw (header_length t.next, joined_length t.slots) (omega arith)
