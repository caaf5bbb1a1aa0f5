-- A slot written as a lent part of the table. Assumes nothing.
use mathlib.Core.Path.{◌≡◌, sym, ◌∙◌, ap}
use mathlib.Core.List.{List, append_assoc, append-nil}
use Prim.Native.Nat.{ℕ, ◌+◌, ◌-◌, ◌≤◌}
use native.Mathlib.Nat.{le_of_eq}
use native.Mathlib.Omega.{arith}
use borrow.Rule.Slice.PartMut.{put_mid}
use lib.ListN.{length, take, drop, drop_of_length-le}
use lib.Seq.{drop-drop}
use Rattle.words.specs.Number.{part}
use Rattle.words.specs.Writing.{over, written}
use Rattle.words.proofs.Digits.{lent_part, part_length}
use Rattle.words.proofs.Written.{over_start, written_all}
use Rattle.table.specs.Layout.{width, slot_bytes}
use Rattle.table.specs.declared.slot.Slot.{Slot}
use Rattle.table.proofs.Widths.{slot_length}

module _ (at : ℕ) (bytes : List ℕ) (h : at + width ≤ length bytes) where
  pub lent_written : (slot : Slot) (after : List ℕ) → after ≡ written 0 (slot_bytes slot) (take (at + width - at) (drop at bytes))
      → put_mid at (at + width - at) bytes after ≡ over at (slot_bytes slot) bytes
  unfolding over
  lent_written slot after e =
      let w : at + width - at ≡ width = omega arith in
      let size = part_length at width bytes h in
      let room : 0 + length (slot_bytes slot) ≤ length (part at width bytes) = rw (slot_length slot, size) (omega arith) in
      let now : after ≡ slot_bytes slot =
      e ∙ ap (written 0 (slot_bytes slot)) (lent_part at width bytes) ∙ written_all 0 (slot_bytes slot) (part at width bytes) room ∙ over_start (slot_bytes slot) (part at width bytes)
      ∙ rw (slot_length slot, drop_of_length-le (part at width bytes) (le_of_eq size)) (append-nil (slot_bytes slot)) in
      rw (w, now, slot_length slot, drop-drop width at bytes) (sym (append_assoc (take at bytes) (slot_bytes slot) (drop (at + width) bytes)))
