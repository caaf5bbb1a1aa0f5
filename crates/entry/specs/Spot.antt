-- Contracts of the crate's own functions: an entry's record, where it stands by another, and the verdict on the new list without it being
-- there yet.
use Rattle.std.specs.Prelude.{◌≡◌, List, [], ◌∷◌, Bool, true, not, ◌&&◌, ℕ, ◌^◌, ◌≤◌, ◌<◌, eqb, leb, ltb, if◌then◌else◌, Result}
use Rattle.std.specs.declared.cmp.Ordering.{Ordering}
use Rattle.std.specs.declared.cmp.Ordering.TheVariants.{Less, Equal, Greater}
use Rattle.words.specs.Said.{Said, done, refused, and_then}
use Rattle.words.specs.Refusal.{plain_says}
use Rattle.words.specs.declared.refusal.Refusal.{Refusal}
use Rattle.words.specs.Realm.{realm_at}
use Rattle.records.specs.Kind.{size, wants_mask}
use Rattle.records.specs.Standing.{rises, is_forbidden, lacks_control}
use Rattle.list.specs.Checking.{records, has, check_says}
use Rattle.records.specs.declared.records.Record.{Record}
use Rattle.entry.specs.Entry.{is_entry, record_for}
use Rattle.entry.specs.declared.entries.Entry.{Entry}

-- what the numbers of an entry always are: a realm of sixteen bytes, an id of four
pub record InWidth (entry : Entry) : Type 0 where
  pub hi : entry.realm.hi < 256 ^ 8
  pub lo : entry.realm.lo < 256 ^ 8
  pub id : entry.id < 256 ^ 4

-- the record that an entry says
pub record Says (entry : Entry) (r : Record) : Type 0 where
  pub is_record : r ≡ record_for entry
  pub is_entry_kind : is_entry r.kind ≡ true
  pub sized : r.size ≡ size r.kind
  pub short : r.size ≤ 22
  pub numbers : InWidth entry

-- what is asked before the new list is looked at: the old list's own refusals, then a kind outside 2 to 11
pub record Asks (list : List ℕ) (kind : ℕ) (r : Result (Unit {0}) Refusal) : Type 0 where
  pub answer : plain_says r ≡ and_then (check_says list) (if not (is_entry kind) then refused 12 (0 ∷ []) else done [])

-- where a record stands by another
unfoldable pub side_of : Record → Record → Ordering
side_of q r = if rises q r then Less else if rises r q then Greater else Equal

unfoldable pub has_mask : List ℕ → Bool
has_mask list = has (λ q. eqb q.kind 5) (records list)

-- a list that passed, with a record put at a place, n bytes long
unfoldable pub put_verdict : List ℕ → Record → ℕ → ℕ → Said
put_verdict list r at n =
    if ltb 4096 n then refused 10 (0 ∷ []) else
    if ltb 63 r.rights then refused 14 (at ∷ []) else
    if is_forbidden (realm_at 1 list) r then refused 16 (at ∷ []) else
    if wants_mask r.kind && not (has_mask list) then refused 18 (n ∷ []) else
    if lacks_control r then refused 19 (n ∷ []) else
    done []

-- a list that passed, without its record of a kind at a place, n bytes long
unfoldable pub drop_verdict : ℕ → ℕ → ℕ → Said
drop_verdict kind at n =
    if leb kind 4 then refused 17 (n ∷ []) else
    if eqb kind 5 && ltb at n then refused 18 (n ∷ []) else
    done []
