-- A table with more slots: zero bytes after it, forty-one for each.
use Rattle.std.specs.Prelude.{◌≡◌, true, List, ◌++◌, ℕ, ◌+◌, ◌*◌, ◌≤◌, replicate}
use Rattle.words.specs.Number.{Bytes}
use Rattle.table.specs.Table.{with_slots}
use Rattle.table.specs.Layout.{width, count, table_of}
use Rattle.table.specs.Form.{well_formed}
use Rattle.table.specs.declared.slot.Slot.TheVariants.{Free}
use Rattle.audit.specs.Audit.{sound}

abbrev pub longer : List ℕ → ℕ → List ℕ
longer bytes k = bytes ++ replicate (width * k) 0

-- the same tokens and the same next number, with so many free slots more; the audit says the same
pub record Lengthened (bytes : List ℕ) (k : ℕ) : Type 0 where
  pub is_well_formed : well_formed (longer bytes k) ≡ true
  pub table : table_of (longer bytes k) ≡ with_slots (table_of bytes) ((table_of bytes).slots ++ replicate k Free)
  pub audit : sound (longer bytes k) ≡ sound bytes

-- of every well-formed table, up to 1,024 slots in all
abbrev pub Lengthens : Type 0
Lengthens = (bytes : List ℕ) → Bytes bytes → well_formed bytes ≡ true → (k : ℕ) → count bytes + k ≤ 1024 → Lengthened bytes k
