-- The fields of a slot, written one after the other. Assumes nothing.
use mathlib.Core.Path.{◌≡◌, refl, sym, ◌∙◌, ap}
use mathlib.Core.List.{List, [], ◌∷◌, ◌++◌, append_assoc}
use Prim.Native.Nat.{ℕ, ◌≤◌, ◌<◌}
use native.Mathlib.Omega.{arith}
use borrow.Author.Tests.{lt-leb}
use lib.ListN.{length, set, length-append}
use Rattle.words.specs.Writing.{digits, over, written}
use Rattle.words.specs.Number.{within}
use Rattle.words.proofs.Written.{digits_length, over_next, set_over, written_all, next_written}
use Rattle.claims.specs.declared.claim.FileId.{FileId}
use Rattle.claims.specs.declared.claim.Claim.{Claim}
use Rattle.table.specs.Layout.{width, file_bytes, field_bytes, slot_bytes}
use Rattle.table.specs.declared.slot.Slot.{Slot}
use Rattle.table.specs.declared.slot.Slot.TheVariants.{Free}
use Rattle.table.proofs.Widths.{file_length, slot_length}
use Rattle.store.specs.Pieces.{head_bytes, rest_bytes}

head_length : (kind types host : ℕ) → length (head_bytes kind types host) ≡ 5
unfolding head_bytes
head_length kind types host = simp (length-append, digits_length)

module _ (s : List ℕ) (h : width ≤ length s) where
  pub head_written : (kind types host : ℕ) (t u : List ℕ) → t ≡ written 1 (digits 2 types) (set s 0 kind) → u ≡ written 3 (digits 2 host) t
      → u ≡ over 0 (head_bytes kind types host) s
  unfolding head_bytes
  head_written kind types host t u p q =
      let first : set s 0 kind ≡ over 0 (kind ∷ []) s = set_over s 0 kind (omega arith) in
      let a = next_written 0 1 (kind ∷ []) (digits 2 types) s (set s 0 kind) t refl (rw (digits_length 2 types) (omega arith)) first p in
      next_written 0 3 ((kind ∷ []) ++ digits 2 types) (digits 2 host) s t u (simp (length-append, digits_length)) (rw (digits_length 2 host) (omega arith)) a q

  pub file_written : (file : FileId) (t u : List ℕ) → t ≡ written 5 (digits 8 file.hi) s → u ≡ written 13 (digits 4 file.lo) t
      → u ≡ over 5 (file_bytes file) s
  unfolding file_bytes
  file_written file t u p q =
      let first : t ≡ over 5 (digits 8 file.hi) s = p ∙ written_all 5 (digits 8 file.hi) s (rw (digits_length 8 file.hi) (omega arith)) in
      next_written 5 8 (digits 8 file.hi) (digits 4 file.lo) s t u (digits_length 8 file.hi) (rw (digits_length 4 file.lo) (omega arith)) first q

  pub rest_written : (first last number : ℕ) (t u v : List ℕ) → t ≡ written 17 (digits 8 first) s → u ≡ written 25 (digits 8 last) t
      → v ≡ written 33 (digits 8 number) u → v ≡ over 17 (rest_bytes first last number) s
  unfolding rest_bytes
  rest_written first last number t u v p q r =
      let a : t ≡ over 17 (digits 8 first) s = p ∙ written_all 17 (digits 8 first) s (rw (digits_length 8 first) (omega arith)) in
      let b = next_written 17 8 (digits 8 first) (digits 8 last) s t u (digits_length 8 first) (rw (digits_length 8 last) (omega arith)) a q in
      next_written 17 16 (digits 8 first ++ digits 8 last) (digits 8 number) s u v (simp (length-append, digits_length)) (rw (digits_length 8 number) (omega arith)) b r

  pub fields_written : (kind number : ℕ) (claim : Claim) (t u v : List ℕ) → t ≡ over 0 (head_bytes kind claim.types claim.host) s
      → u ≡ over 5 (file_bytes claim.file) t → v ≡ over 17 (rest_bytes claim.first claim.last number) u → v ≡ over 0 (field_bytes kind number claim) s
  unfolding field_bytes head_bytes rest_bytes
  fields_written kind number claim t u v p q r =
      let head = head_bytes kind claim.types claim.host in
      let file = file_bytes claim.file in
      let rest = rest_bytes claim.first claim.last number in
      let a : u ≡ over 0 (head ++ file) s = q ∙ rw p (over_next 0 5 head file s (head_length kind claim.types claim.host) (omega arith)) in
      let l : length (head ++ file) ≡ 17 = length-append head file ∙ rw (head_length kind claim.types claim.host, file_length claim.file) refl in
      let b : v ≡ over 0 ((head ++ file) ++ rest) s = r ∙ rw a (over_next 0 17 (head ++ file) rest s l (omega arith)) in
      let f = digits 8 claim.first in
      let l = digits 8 claim.last in
      let e : (head ++ file) ++ rest ≡ head ++ file ++ f ++ l ++ digits 8 number =
      sym (append_assoc (head ++ file) (f ++ l) (digits 8 number)) ∙ ap (λ (xs : List ℕ). xs ++ digits 8 number) (sym (append_assoc (head ++ file) f l)) in
      b ∙ ap (λ (xs : List ℕ). over 0 xs s) e

  -- a slot that has room
  pub slot_room : (slot : Slot) → over 0 (slot_bytes slot) s ≡ written 0 (slot_bytes slot) s
  slot_room slot = sym (written_all 0 (slot_bytes slot) s (rw (slot_length slot) (omega arith)))

-- all fields 0
pub free_fields : field_bytes 0 0 (record { types = 0; host = 0; file = record { hi = 0; lo = 0 }; first = 0; last = 0 }) ≡ slot_bytes Free
unfolding field_bytes file_bytes slot_bytes digits
free_fields = refl

pub slot_no_room : (slot : Slot) (s : List ℕ) → length s < width → s ≡ written 0 (slot_bytes slot) s
unfolding written within
slot_no_room slot s h = rw (slot_length slot, lt-leb 41 (length s) h) refl
