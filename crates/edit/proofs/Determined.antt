-- Two outcomes that meet a statement are equal. Assumes nothing.
use Rattle.std.specs.Prelude.{Result}
use mathlib.Core.Path.{◌≡◌, sym, ◌∙◌}
use mathlib.Core.List.{List}
use Prim.Native.Nat.{ℕ}
use Rattle.words.specs.declared.refusal.Refusal.{Refusal}
use Rattle.words.proofs.Refusals.{same_number}
use Rattle.entry.specs.declared.entries.Entry.{Entry}
use Rattle.edit.specs.Editing.{Puts, Drops}

module _ (list : List ℕ) (entry : Entry) (out : List ℕ) (r r' : Result ℕ Refusal) (after after' : List ℕ) where
  pub put_entry_determined : Puts list entry out r after → Puts list entry out r' after' → (r ≡ r') × (after ≡ after')
  put_entry_determined p q = (same_number r r' p.answer q.answer, p.out_after ∙ sym q.out_after)

  pub drop_entry_determined : Drops list entry out r after → Drops list entry out r' after' → (r ≡ r') × (after ≡ after')
  drop_entry_determined p q = (same_number r r' p.answer q.answer, p.out_after ∙ sym q.out_after)
