-- One record, read from the part of the list that begins at it.
use Rattle.std.specs.Prelude.{◌≡◌, not, List, [], ◌∷◌, ℕ, ◌+◌, eqb, ltb, length, get_or, if◌then◌else◌, Option, None, Some, Result, Ok, Err}
use Rattle.words.specs.Said.{Said, done, refused}
use Rattle.words.specs.Number.{number_at}
use Rattle.words.specs.Realm.{zero_realm, realm_at}
use Rattle.words.specs.Refusal.{number_of}
use Rattle.words.specs.declared.refusal.Fault.{Fault}
use Rattle.words.specs.declared.refusal.Fault.TheVariants.{UnknownKind, CutShort}
use Rattle.records.specs.Kind.{body_of, is_known, size}
use Rattle.records.specs.declared.records.Record.{Record}

-- what stands at the head of a tail: a record, nothing where the tail is empty, or what is wrong there
abbrev pub Read : Type 0
Read = Result (Option Record) Fault

-- what a record of a kind says, and its length; what its kind has not is zero
unfoldable pub record_of : ℕ → List ℕ → Record
record_of kind tail = record {
  kind = kind;
  realm = if eqb (body_of kind).realm 0 then zero_realm else realm_at 1 tail;
  id = if eqb (body_of kind).id 0 then 0 else number_at 4 (1 + (body_of kind).realm) tail;
  rights = if eqb (body_of kind).rights 0 then 0 else get_or tail (1 + (body_of kind).realm + (body_of kind).id) 0;
  size = size kind;
}

-- a tail that begins with a kind
unfoldable pub read_as : ℕ → List ℕ → Read
read_as kind tail =
    if not (is_known kind) then Err UnknownKind else
    if ltb (length tail) (size kind) then Err CutShort else
    Ok (Some (record_of kind tail))

-- what stands at the head of a tail
unfoldable pub read_of : List ℕ → Read
read_of tail = if eqb (length tail) 0 then Ok None else read_as (get_or tail 0 0) tail

-- what follows from a whole record, or what stands in its place where there is none
module _ {A : Type 0} where
  unfoldable pub when_whole : Read → (Record → A) → A → A
  when_whole (Ok None) follows other = other
  when_whole (Ok (Some r)) follows other = follows r
  when_whole (Err fault) follows other = other

-- a record's values: kind, realm, id, rights and length
unfoldable pub record_values : Record → List ℕ
record_values r = r.kind ∷ r.realm.hi ∷ r.realm.lo ∷ r.id ∷ r.rights ∷ r.size ∷ []

-- what each reading says by 01's numbers; the place is that in the part, which begins at the record
unfoldable pub read_says : Read → Said
read_says (Ok None) = done []
read_says (Ok (Some r)) = done (record_values r)
read_says (Err fault) = refused (number_of fault) (0 ∷ [])

-- reading one record
pub record ReadsRecord (tail : List ℕ) (r : Read) : Type 0 where
  pub answer : read_says r ≡ read_says (read_of tail)
