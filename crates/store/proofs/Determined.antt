-- Two outcomes that meet a statement are equal. Assumes nothing.
use mathlib.Core.Path.{◌≡◌, sym, ◌∙◌}
use mathlib.Core.List.{List}
use Prim.Native.Nat.{ℕ}
use Rattle.table.specs.Layout.{WritesSlot}
use Rattle.table.specs.Fill.{Fills}
use Rattle.words.specs.declared.refusal.Refusal.{Refusal}
use Rattle.std.specs.Prelude.{Result}
use Rattle.table.specs.declared.slot.Slot.{Slot}
use Rattle.words.proofs.Refusals.{same_plain}

pub write_slot_determined : (value : Slot) (slot after after' : List ℕ) → WritesSlot value slot after → WritesSlot value slot after' → after ≡ after'
write_slot_determined value slot after after' p q = p.slot_after ∙ sym q.slot_after

pub fill_determined : (bytes : List ℕ) (r r' : Result (Unit {0}) Refusal) (after after' : List ℕ) → Fills bytes r after → Fills bytes r' after' → (r ≡ r') × (after ≡ after')
fill_determined bytes r r' after after' p q = (same_plain r r' p.answer q.answer, p.table_after ∙ sym q.table_after)
