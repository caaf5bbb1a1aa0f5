-- One definition takes a call on a table to bytes: if they are not well formed, 30; else the call on the table that they mean, and the bytes of
-- the table after it.
use Rattle.std.specs.Prelude.{List, [], ℕ, if◌then◌else◌}
use Rattle.words.specs.Said.{Said, refused, left}
use Rattle.table.specs.Table.{Table}
use Rattle.table.specs.Layout.{table_of, bytes_of}
use Rattle.table.specs.Form.{well_formed}

module _ (says : Table → Said) where
  unfoldable pub says_of : List ℕ → Said
  says_of bytes = if well_formed bytes then says (table_of bytes) else refused 30 []

  unfoldable pub left_of : (Table → Table) → List ℕ → List ℕ
  left_of changed bytes = left (says_of bytes) (bytes_of (changed (table_of bytes))) bytes
