-- The entry of an edit: kind, realm, id and rights byte, given as numbers.
use Rattle.std.specs.Prelude.{Bool, ◌&&◌, ℕ, eqb, leb, if◌then◌else◌}
use Rattle.words.specs.Realm.{zero_realm}
use Rattle.records.specs.Kind.{body_of, size}
use Rattle.records.specs.declared.records.Record.{Record}
use Rattle.entry.specs.declared.entries.Entry.{Entry}

-- the kinds 2 to 11
unfoldable pub is_entry : ℕ → Bool
is_entry kind = leb 2 kind && leb kind 11

-- the record that an entry says; what its kind has not is ignored, and zero
unfoldable pub record_for : Entry → Record
record_for entry = record {
  kind = entry.kind;
  realm = if eqb (body_of entry.kind).realm 0 then zero_realm else entry.realm;
  id = if eqb (body_of entry.kind).id 0 then 0 else entry.id;
  rights = entry.rights;
  size = size entry.kind;
}
