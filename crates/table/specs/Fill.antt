-- Fill makes all slots free with next 1 and starts a new history.
use Rattle.std.specs.Prelude.{◌≡◌, Result, List, [], ℕ, length, replicate, if◌then◌else◌}
use Rattle.words.specs.Said.{Said, done, refused, left}
use Rattle.words.specs.Refusal.{plain_says}
use Rattle.words.specs.declared.refusal.Refusal.{Refusal}
use Rattle.table.specs.Table.{Table}
use Rattle.table.specs.Layout.{count, bytes_of}
use Rattle.table.specs.Form.{is_length}
use Rattle.table.specs.declared.slot.Slot.TheVariants.{Free}

unfoldable pub filled : ℕ → Table
filled n = record { slots = replicate n Free; next = 1 }

-- bad length only
unfoldable pub fill_says : List ℕ → Said
fill_says bytes = if is_length (length bytes) then done [] else refused 30 []

-- filling a table
pub record Fills (bytes : List ℕ) (r : Result (Unit {0}) Refusal) (after : List ℕ) : Type 0 where
  pub answer : plain_says r ≡ fill_says bytes
  pub table_after : after ≡ left (fill_says bytes) (bytes_of (filled (count bytes))) bytes
