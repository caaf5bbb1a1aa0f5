-- Access judged: 23, 10 to 19, 22, then 24.
use Rattle.std.specs.Prelude.{◌≡◌, not, List, [], ℕ, eqb, get_or, if◌then◌else◌, Result}
use Rattle.std.specs.Int.Bits.{bit_and}
use Rattle.words.specs.Said.{Said, done, refused}
use Rattle.evaluate.specs.declared.asking.Caller.{Caller}
use Rattle.evaluate.specs.declared.asking.File.{File}
use Rattle.rights.specs.Deciding.{decided}
use Rattle.rights.specs.declared.access.Access.{Access as TheAccess}
use Rattle.rights.specs.declared.guard.Guard.{Guard}
use Rattle.words.specs.Refusal.{plain_says}
use Rattle.words.specs.declared.refusal.Refusal.{Refusal}
use Rattle.access.specs.Needs.{needed}

-- what a call is judged by: the caller and its further groups, the file, its guard and the list that is lent
pub record Access : Type 0 where
  pub list : List ℕ
  pub groups : List ℕ
  pub caller : Caller
  pub file : File
  pub guard : Guard

abbrev pub access_of : List ℕ → List ℕ → Caller → File → Guard → Access
access_of list groups caller file guard = record { list = list; groups = groups; caller = caller; file = file; guard = guard }

-- as it is lent
abbrev pub access_in : TheAccess → Access
access_in a = access_of a.list.now a.groups.now a.caller a.file a.guard

-- 24: a needed right is missing
unfoldable pub sufficient : ℕ → ℕ → Said
sufficient rights needs = if not (eqb (bit_and rights needs) needs) then refused 24 [] else done []

-- the rights call's own refusals come first
unfoldable pub permits : Said → ℕ → Said
permits (done values) needs = sufficient (get_or values 0 0) needs
permits (refused number values) needs = refused number values

unfoldable pub access_says : Access → ℕ → Said
access_says a types = permits (decided a.list a.groups a.caller a.file a.guard).says (needed a.file.dir types)

-- judging access
pub record Judges (access : Access) (types : ℕ) (r : Result (Unit {0}) Refusal) : Type 0 where
  pub answer : plain_says r ≡ access_says access types
