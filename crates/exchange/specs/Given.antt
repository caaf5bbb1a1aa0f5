-- What a call is given by C: realms and file ids are bytes, and what is no 0 is a yes.
use Rattle.std.specs.Prelude.{◌≡◌, List, ℕ, not, eqb, if◌then◌else◌}
use Rattle.words.specs.Number.{number_at}
use Rattle.words.specs.Realm.{realm_at}
use Rattle.evaluate.specs.declared.asking.Caller.{Caller as TheCaller}
use Rattle.evaluate.specs.declared.asking.File.{File as TheFile}
use Rattle.rights.specs.declared.access.Access.{Access}
use Rattle.rights.specs.declared.guard.Guard.{Guard}
use Rattle.rights.specs.declared.guard.Guard.TheVariants.{List as ByList, Mode}
use Rattle.entry.specs.declared.entries.Entry.{Entry as TheEntry}
use Rattle.claims.specs.declared.claim.Claim.{Claim as TheClaim}
use Rattle.exchange.specs.declared.given.Caller.{Caller}
use Rattle.exchange.specs.declared.given.Claim.{Claim}
use Rattle.exchange.specs.declared.given.Entry.{Entry}
use Rattle.exchange.specs.declared.given.File.{File}

unfoldable pub caller_of : Caller → TheCaller
caller_of caller = record { realm = realm_at 0 caller.realm; user = caller.user; group = caller.group }

unfoldable pub file_of : File → TheFile
file_of file = record { owner = file.owner; group = file.group; dir = not (eqb file.dir 0) }

unfoldable pub guard_of : File → Guard
guard_of file = if eqb file.moded 0 then ByList else Mode (realm_at 0 file.realm) file.mode

unfoldable pub entry_of : Entry → TheEntry
entry_of entry = record { kind = entry.kind; realm = realm_at 0 entry.realm; id = entry.id; rights = entry.rights }

unfoldable pub claim_of : Claim → TheClaim
claim_of claim = record {
  types = claim.types;
  host = claim.host;
  file = record { hi = number_at 8 0 claim.file; lo = number_at 4 8 claim.file };
  first = claim.first;
  last = claim.last;
}

-- lending what a call is judged by: the list and the further groups, and the caller, the file and its guard as they are meant
pub record Lends (list groups : List ℕ) (caller : Caller) (file : File) (r : Access) : Type 0 where
  pub list_lent : r.list.now ≡ list
  pub groups_lent : r.groups.now ≡ groups
  pub caller_meant : r.caller ≡ caller_of caller
  pub file_meant : r.file ≡ file_of file
  pub guard_meant : r.guard ≡ guard_of file
