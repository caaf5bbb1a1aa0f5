-- A whole list: its records with their places, and what the check says of it.
use Rattle.std.specs.Prelude.{Bool, not, List, [], ◌∷◌, ℕ, zero, suc, ◌+◌, eqb, ltb, length, drop, if◌then◌else◌, Option, None, Some}
use Rattle.words.specs.Test.{any_of}
use Rattle.words.specs.Said.{Said, done, refused, and_then}
use Rattle.words.specs.Realm.{realm_at}
use Rattle.words.specs.Refusal.{number_of}
use Rattle.words.specs.declared.refusal.Fault.{Fault}
use Rattle.words.specs.declared.realm.Realm.{Realm}
use Rattle.records.specs.Kind.{wants_mask}
use Rattle.records.specs.Reading.{Read, read_of, when_whole}
use Rattle.records.specs.Standing.{lacks_control}
use Rattle.records.specs.declared.records.Record.{Record}
use Rattle.list.specs.Fault.{begins, no_record, fault, Seen, end_fault}

-- a place of a list and what is read there
pub record Found : Type 0 where
  pub at : ℕ
  pub read : Read

unfoldable pub found : ℕ → Read → Found
found at read = record { at = at; read = read }

-- what is read from a tail that begins at a place, one record after the other; the first number bounds how many they are
unfoldable pub cut_from : ℕ → ℕ → List ℕ → List Found
cut_from zero at tail = []
cut_from (suc n) at tail =
    if eqb (length tail) 0 then [] else
    found at (read_of tail) ∷ when_whole (read_of tail) (λ r. cut_from n (at + r.size) (drop r.size tail)) []

-- a record has a byte at least, so there are no more of them than bytes
unfoldable pub cut : List ℕ → List Found
cut list = cut_from (length list) 0 list

-- a record and its place
pub record Placed : Type 0 where
  pub at : ℕ
  pub it : Record

unfoldable pub placed : ℕ → Record → Placed
placed at r = record { at = at; it = r }

-- those that are whole
unfoldable pub wholes : List Found → List Placed
wholes [] = []
wholes (f ∷ fs) = let rest = wholes fs in when_whole f.read (λ r. placed f.at r ∷ rest) rest

-- the records of a list with their places
unfoldable pub records : List ℕ → List Placed
records list = wholes (cut list)

-- the refusal at a place, if there is one
unfoldable pub refused_at : ℕ → Option Fault → Said
refused_at place None = done []
refused_at place (Some fault) = refused (number_of fault) (place ∷ [])

-- the record that the next one is compared with
unfoldable pub passed : Read → Record
passed read = when_whole read (λ r. r) no_record

-- each record from the left: the first that earns a refusal
unfoldable pub faults_after : Realm → Record → List Found → Said
faults_after home earlier [] = done []
faults_after home earlier (f ∷ fs) =
    and_then (refused_at f.at (fault home earlier f.read)) (faults_after home (passed f.read) fs)

-- some record passes the test
unfoldable pub has : (Record → Bool) → List Placed → Bool
has test = any_of (λ p. test p.it)

-- what the records have
unfoldable pub seen_in : List Placed → Seen
seen_in rs = record {
  user = has (λ r. eqb r.kind 2) rs;
  group = has (λ r. eqb r.kind 3) rs;
  other = has (λ r. eqb r.kind 4) rs;
  mask = has (λ r. eqb r.kind 5) rs;
  wanting = has (λ r. wants_mask r.kind) rs;
  powerless = has lacks_control rs;
}

-- each record is checked from the left; after the last come 17, 18, 19
unfoldable pub check_says : List ℕ → Said
check_says list =
    if ltb 4096 (length list) then refused 10 (0 ∷ []) else
    if not (begins list) then refused 11 (0 ∷ []) else
    and_then (faults_after (realm_at 1 list) no_record (cut list))
    (refused_at (length list) (end_fault (seen_in (records list))))
