-- The new list of an edit: one entry put among the records of a list, or dropped from them.
use Rattle.std.specs.Prelude.{List, ◌∷◌, ◌++◌, map, Bool, not, ◌&&◌, ℕ, eqb}
use Rattle.words.specs.Test.{any_of, those}
use Rattle.words.specs.Realm.{same_realm}
use Rattle.records.specs.Standing.{rises}
use Rattle.list.specs.Checking.{records}
use Rattle.records.specs.declared.records.Record.{Record}
use Rattle.entry.specs.Entry.{record_for}
use Rattle.entry.specs.Spelling.{spell}
use Rattle.entry.specs.declared.entries.Entry.{Entry}

-- the records of a list, without their places
unfoldable pub records_in : List ℕ → List Record
records_in list = map (λ p. p.it) (records list)

-- the same kind, realm and id
unfoldable pub same_entry : Record → Record → Bool
same_entry a b = eqb a.kind b.kind && (same_realm a.realm b.realm && eqb a.id b.id)

-- between the records that come before it and those that come after it; the one of the same kind, realm and id is neither
unfoldable pub put_in : Record → List Record → List Record
put_in r rs = those (λ q. rises q r) rs ++ (r ∷ those (λ q. rises r q) rs)

-- all but the one of the same kind, realm and id
unfoldable pub drop_from : Record → List Record → List Record
drop_from r rs = those (λ q. not (same_entry r q)) rs

-- the new lists, and whether there is something to drop
module _ (list : List ℕ) (entry : Entry) where
  unfoldable pub putting : List ℕ
  putting = spell (put_in (record_for entry) (records_in list))

  unfoldable pub dropping : List ℕ
  dropping = spell (drop_from (record_for entry) (records_in list))

  unfoldable pub has_entry : Bool
  has_entry = any_of (same_entry (record_for entry)) (records_in list)
