-- What a call makes of the bytes of a table in order: the bytes of the table that it makes. Assumes nothing.
use mathlib.Core.Path.{◌≡◌, refl, sym, ◌∙◌, ap}
use mathlib.Core.List.{List}
use Prim.Native.Nat.{ℕ}
use lib.ListN.{length}
use Rattle.words.specs.Said.{Said, done, refused, left}
use Rattle.words.proofs.Left.{left_whole}
use Rattle.table.specs.Table.{Table}
use Rattle.table.specs.Layout.{bytes_of}
use Rattle.table.specs.Call.{says_of, left_of}
use Rattle.table.proofs.Tables.{bytes_length}
use Rattle.table.proofs.Means.{InOrder, table_bytes, bytes_formed}
use Rattle.table.proofs.Calls.{says_well}

-- the new table where a call is done, else the old one
unfoldable pub next : Said → Table → Table → Table
next (done values) new old = new
next (refused number values) new old = old

module _ (says : Table → Said) (t : Table) (o : InOrder t) where
  pub says_there : says_of says (bytes_of t) ≡ says t
  says_there = says_well says (bytes_of t) (bytes_formed t o) ∙ ap says (table_bytes t o)

  pub left_there : (changed : Table → Table) → ((values : List ℕ) → says t ≡ done values → length (changed t).slots ≡ length t.slots)
      → left_of says changed (bytes_of t) ≡ bytes_of (next (says t) (changed t) t)
  unfolding left_of left next
  left_there changed long = rw (says_there, table_bytes t o) (go (says t) refl)
    where
      go : (said : Said) → says t ≡ said → left said (bytes_of (changed t)) (bytes_of t) ≡ bytes_of (next said (changed t) t)
      go (done values) e = left_whole values (bytes_of (changed t)) (bytes_of t) (bytes_length (changed t) ∙ rw (long values e) (sym (bytes_length t)))
      go (refused number values) e = refl
