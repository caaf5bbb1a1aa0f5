-- The walk over a list: one step gives the record and the walk after it, or the refusal with its place, or the end.
use Rattle.std.specs.Prelude.{◌≡◌, not, ◌&&◌, List, [], ◌∷◌, ◌++◌, ℕ, zero, suc, ◌+◌, eqb, ltb, leb, length, drop, if◌then◌else◌, Option, None, Some, Result, Ok, Err}
use Rattle.std.specs.Int.Bits.{bit_or}
use Rattle.words.specs.Said.{Said, done}
use Rattle.words.specs.Refusal.{refusal_says, says_by}
use Rattle.words.specs.declared.refusal.Fault.{Fault}
use Rattle.words.specs.declared.refusal.Fault.TheVariants.{TooLong, NoDefaultRealm}
use Rattle.words.specs.declared.refusal.Refusal.{Refusal}
use Rattle.words.specs.declared.refusal.Refusal.TheVariants.{Faulty}
use Rattle.words.specs.Bit.{bit}
use Rattle.words.specs.Realm.{realm_at}
use Rattle.records.specs.Kind.{wants_mask}
use Rattle.records.specs.Reading.{Read, read_of, when_whole, record_values}
use Rattle.records.specs.Standing.{lacks_control}
use Rattle.records.specs.declared.records.Record.{Record}
use Rattle.list.specs.Fault.{begins, no_record, fault, Seen, end_fault}
use Rattle.list.specs.Checking.{Placed, placed}
use Rattle.list.specs.declared.walk.Walk.{Walk}

-- what a step comes to: the record that it meets and the walk after it, nothing at the end, or a refusal
abbrev pub Step : Type 0
Step = Result (Option (Record × Walk)) Refusal

-- the mark that a record leaves in a walk, for the end: 1 user_obj, 2 group_obj, 4 other_obj, 8 mask_obj, 16 a record that wants a
-- mask_obj, 32 more for a user_obj without control
unfoldable pub mark_of : Record → ℕ
mark_of r =
    if wants_mask r.kind then 16 else
    if lacks_control r then 33 else
    if eqb r.kind 2 then 1 else
    if eqb r.kind 3 then 2 else
    if eqb r.kind 4 then 4 else
    if eqb r.kind 5 then 8 else
    0

-- what the marks of all records say
unfoldable pub seen_of : ℕ → Seen
seen_of marks = record {
  user = bit 0 marks;
  group = bit 1 marks;
  other = bit 2 marks;
  mask = bit 3 marks;
  wanting = bit 4 marks;
  powerless = bit 5 marks;
}

-- at the beginning of a list, whose default realm stands right after the first kind
unfoldable pub start_of : List ℕ → Walk
start_of list = record { at = 0; home = realm_at 1 list; earlier = no_record; marks = 0 }

unfoldable pub walk_after : Walk → Record → Walk
walk_after walk r = record {
  at = walk.at + r.size;
  home = walk.home;
  earlier = r;
  marks = bit_or walk.marks (mark_of r);
}

-- the refusal at a place, if there is one
unfoldable pub refused_or : Option Fault → ℕ → Step → Step
refused_or None place step = step
refused_or (Some fault) place step = Err (Faulty fault place)

-- what is read at the walk's place
unfoldable pub heard : Walk → Read → Step
heard walk read =
    refused_or (fault walk.home walk.earlier read) walk.at (when_whole read (λ r. Ok (Some (r, walk_after walk r))) (Ok None))

unfoldable pub step_of : Walk → List ℕ → Step
step_of walk list =
    if ltb 4096 (length list) then Err (Faulty TooLong 0) else
    if eqb walk.at 0 && not (begins list) then Err (Faulty NoDefaultRealm 0) else
    if leb (length list) walk.at then refused_or (end_fault (seen_of walk.marks)) (length list) (Ok None) else
    heard walk (read_of (drop walk.at list))

-- starting a walk
pub record Starts (list : List ℕ) (r : Walk) : Type 0 where
  pub answer : r ≡ start_of list

-- a walk's values: its place, the default realm, the record before, the marks
unfoldable pub walk_values : Walk → List ℕ
walk_values walk = walk.at ∷ walk.home.hi ∷ walk.home.lo ∷ (record_values walk.earlier ++ (walk.marks ∷ []))

-- of a record met its values, then those of the walk after it
unfoldable pub met_values : Option (Record × Walk) → List ℕ
met_values None = []
met_values (Some (r, walk)) = record_values r ++ walk_values walk

-- what each step says by 01's numbers
abbrev pub step_says : Step → Said
step_says = says_by met_values

-- one step
pub record Steps (walk : Walk) (list : List ℕ) (r : Step) : Type 0 where
  pub answer : step_says r ≡ step_says (step_of walk list)

-- what a walk meets to its end, and what it says there
pub record Run : Type 0 where
  pub met : List Placed
  pub says : Said

unfoldable pub meeting : ℕ → Step → (Walk → Run) → Run
meeting at (Ok None) rest = record { met = []; says = done [] }
meeting at (Ok (Some (r, walk))) rest = record { met = placed at r ∷ (rest walk).met; says = (rest walk).says }
meeting at (Err refusal) rest = record { met = []; says = refusal_says refusal }

-- by at most so many steps
unfoldable pub run_from : ℕ → Walk → List ℕ → Run
run_from zero walk list = record { met = []; says = done [] }
run_from (suc n) walk list = meeting walk.at (step_of walk list) (λ v. run_from n v list)

-- over a whole list: a step for each record, which has a byte at least, and one for the end
unfoldable pub run : List ℕ → Run
run list = run_from (suc (length list)) (start_of list) list
