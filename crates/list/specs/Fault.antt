-- Refusal 11 of a list, 12 to 16 of one record by the default realm and the record before it, 17 to 19 of all of them.
use Rattle.std.specs.Prelude.{Bool, not, ◌&&◌, List, ℕ, eqb, ltb, get_or, if◌then◌else◌, Option, None, Some, Ok, Err}
use Rattle.words.specs.Realm.{zero_realm}
use Rattle.words.specs.declared.realm.Realm.{Realm}
use Rattle.words.specs.declared.refusal.Fault.{Fault}
use Rattle.words.specs.declared.refusal.Fault.TheVariants.{RightsAbove63, OutOfOrder, ForbiddenRealm, ObjectMissing, MaskMissing, ControlMissing}
use Rattle.records.specs.Reading.{Read}
use Rattle.records.specs.Standing.{rises, is_forbidden}
use Rattle.records.specs.declared.records.Record.{Record}

-- a list begins with kind 1
unfoldable pub begins : List ℕ → Bool
begins list = eqb (get_or list 0 0) 1

-- what stands before the first record: a kind below all
unfoldable pub no_record : Record
no_record = record { kind = 0; realm = zero_realm; id = 0; rights = 0; size = 0 }

-- what is wrong with what is read after a record, in a list of that default realm
unfoldable pub fault : Realm → Record → Read → Option Fault
fault home earlier (Ok None) = None
fault home earlier (Ok (Some r)) =
    if ltb 63 r.rights then Some RightsAbove63 else
    if not (rises earlier r) then Some OutOfOrder else
    if is_forbidden home r then Some ForbiddenRealm else
    None
fault home earlier (Err unread) = Some unread

-- what the end of a list asks of its records: which of them there are, a record that wants a mask_obj, a user_obj without control
pub record Seen : Type 0 where
  pub user : Bool
  pub group : Bool
  pub other : Bool
  pub mask : Bool
  pub wanting : Bool
  pub powerless : Bool

-- what is wrong after the last record
unfoldable pub end_fault : Seen → Option Fault
end_fault seen =
    if not (seen.user && (seen.group && seen.other)) then Some ObjectMissing else
    if seen.wanting && not seen.mask then Some MaskMissing else
    if seen.powerless then Some ControlMissing else
    None
