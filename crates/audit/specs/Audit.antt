-- Audit says yes exactly when the table is well formed, its numbers differ and nothing conflicts; else no. It never refuses.
use Rattle.std.specs.Prelude.{◌≡◌, Bool, true, not, ◌&&◌, List, [], ◌∷◌, ◌≢◌, ℕ, eqb, get_or}
use Rattle.words.specs.Test.{all_of}
use Rattle.claims.specs.Rule.{conflict}
use Rattle.claims.specs.declared.claim.Claim.{Claim}
use Rattle.table.specs.Table.{Table}
use Rattle.table.specs.Layout.{table_of}
use Rattle.table.specs.Form.{well_formed}
use Rattle.table.specs.declared.slot.Slot.{Slot}
use Rattle.table.specs.declared.slot.Slot.TheVariants.{Free, Held}

-- two slots' tokens have two numbers and do not conflict
unfoldable pub apart : Slot → Slot → Bool
apart Free other = true
apart (Held number claim) Free = true
apart (Held number claim) (Held other claimed) = not (eqb number other) && eqb (conflict claim claimed) 0

-- each with each
unfoldable pub all_apart : List Slot → Bool
all_apart [] = true
all_apart (slot ∷ slots) = all_of (apart slot) slots && all_apart slots

unfoldable pub sound : List ℕ → Bool
sound bytes = well_formed bytes && all_apart (table_of bytes).slots

-- auditing a table
pub record Audits (bytes : List ℕ) (r : Bool) : Type 0 where
  pub answer : r ≡ sound bytes

-- the same of a table, as the paper has it: at any two places that hold tokens the numbers differ and nothing conflicts
pub record Quiet (t : Table) : Type 0 where
  pub numbers_differ : (i j number other : ℕ) (claim claimed : Claim) → i ≢ j
      → get_or t.slots i Free ≡ Held number claim → get_or t.slots j Free ≡ Held other claimed → number ≢ other
  pub nothing_conflicts : (i j number other : ℕ) (claim claimed : Claim) → i ≢ j
      → get_or t.slots i Free ≡ Held number claim → get_or t.slots j Free ≡ Held other claimed → conflict claim claimed ≡ 0
