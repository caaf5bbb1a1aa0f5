-- Contracts of the crate's own functions: the slots of bytes without a header.
use Rattle.std.specs.Prelude.{List, map, ℕ, ◌/◌, length}
use Rattle.table.specs.Layout.{width, cut, slot_of}
use Rattle.table.specs.declared.slot.Slot.{Slot}

unfoldable pub slots_of : List ℕ → List Slot
slots_of bytes = map slot_of (cut (length bytes / width) bytes)
