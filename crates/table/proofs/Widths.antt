-- How long the bytes of a slot are. Assumes nothing.
use mathlib.Core.Path.{◌≡◌, refl}
use Prim.Native.Nat.{ℕ}
use lib.ListN.{length, length-append}
use Rattle.words.proofs.Written.{digits_length}
use Rattle.claims.specs.declared.claim.FileId.{FileId}
use Rattle.claims.specs.declared.claim.Claim.{Claim}
use Rattle.table.specs.Layout.{width, file_bytes, field_bytes, slot_bytes}
use Rattle.table.specs.declared.slot.Slot.{Slot}
use Rattle.table.specs.declared.slot.Slot.TheVariants.{Free, Held}

pub file_length : (file : FileId) → length (file_bytes file) ≡ 12
unfolding file_bytes
file_length file = simp (length-append, digits_length)

pub field_length : (kind number : ℕ) (claim : Claim) → length (field_bytes kind number claim) ≡ width
unfolding field_bytes
field_length kind number claim = simp (length-append, digits_length, file_length)

pub slot_length : (slot : Slot) → length (slot_bytes slot) ≡ width
unfolding slot_bytes
slot_length Free = refl
slot_length (Held number claim) = field_length 1 number claim
