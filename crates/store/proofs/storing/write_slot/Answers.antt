use mathlib.Core.Path.{◌∙◌, ap, sym}
use mathlib.Core.List.{List}
use Prim.Native.Nat.{ℕ}
use Rattle.words.specs.Writing.{over}
use Rattle.table.specs.Layout.{slot_bytes}
use Rattle.table.specs.declared.slot.Slot.{Slot}
use Rattle.store.proofs.Chains.{slot_room, free_fields, slot_no_room}
use Rattle.store.proofs.storing.write_slot.Goals as goal

pub returns-then-slot-lt-WIDTH : goal.returns-then-slot-lt-WIDTH
unfolding slot_bytes
returns-then-slot-lt-WIDTH c = record { slot_after = slot_no_room c.args.value c.args.slot.now c.if-slot-lt-WIDTH.true }

pub returns-in-Free : goal.returns-in-Free
unfolding slot_bytes
returns-in-Free c = let s = c.args.slot.now in record { slot_after = c.write_fields.ensures ∙ ap (λ (xs : List ℕ). over 0 xs s) (free_fields ∙ ap slot_bytes (sym c.in-Free.is)) ∙ slot_room s c.if-slot-lt-WIDTH.false c.args.value }

pub returns-in-Held : goal.returns-in-Held
unfolding slot_bytes
returns-in-Held c = let s = c.args.slot.now in record { slot_after = c.write_fields-in-Held.ensures ∙ ap (λ (v : Slot). over 0 (slot_bytes v) s) (sym c.in-Held.is) ∙ slot_room s c.if-slot-lt-WIDTH.false c.args.value }
