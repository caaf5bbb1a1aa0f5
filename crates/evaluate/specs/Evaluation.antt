-- Checking a list, and evaluating it for a caller and a file.
use Rattle.std.specs.Prelude.{◌≡◌, List, [], ◌∷◌, ℕ, ltb, length, if◌then◌else◌, Result, Ok, Err}
use Rattle.words.specs.Said.{Said, done, refused}
use Rattle.words.specs.Refusal.{refusal_says, plain_says}
use Rattle.words.specs.declared.refusal.Refusal.{Refusal}
use Rattle.words.specs.Realm.{realm_at}
use Rattle.list.specs.Checking.{Placed, records, check_says}
use Rattle.evaluate.specs.Asking.{of_default_realm}
use Rattle.evaluate.specs.Steps.{steps, Served, served, rights_by, first}
use Rattle.evaluate.specs.declared.asking.Caller.{Caller}
use Rattle.evaluate.specs.declared.asking.File.{File}
use Rattle.evaluate.specs.declared.evaluation.Found.{Found}

-- what is said, and the deciding record by its place and length
pub record Decided : Type 0 where
  pub says : Said
  pub start : ℕ
  pub size : ℕ

-- without a record: an empty part
unfoldable pub bare : Said → Decided
bare says = record { says = says; start = 0; size = 0 }

-- 23, more than 32 groups, comes before all else
unfoldable pub unless_too_many : List ℕ → Decided → Decided
unless_too_many groups decided = if ltb 32 (length groups) then bare (refused 23 []) else decided

-- the list's own refusals come before its steps
unfoldable pub unless_refused : Said → Decided → Decided
unless_refused (done values) decided = decided
unless_refused (refused number values) decided = bare (refused number values)

-- by the step that decides among some records
unfoldable pub by_step : Served → List Placed → Decided
by_step s rs = record { says = done (rights_by s rs ∷ []); start = (first s.by).at; size = (first s.by).it.size }

-- the step that decides in a list
unfoldable pub served_in : List ℕ → List ℕ → Caller → File → Served
served_in list groups caller file = served (steps (of_default_realm caller (realm_at 1 list)) groups caller file) (records list)

-- what a list gives a caller on a file
unfoldable pub list_gives : List ℕ → List ℕ → Caller → File → Decided
list_gives list groups caller file = unless_refused (check_says list) (by_step (served_in list groups caller file) (records list))

-- evaluating a list: 23, then its own refusals, then its steps
unfoldable pub evaluation : List ℕ → List ℕ → Caller → File → Decided
evaluation list groups caller file = unless_too_many groups (list_gives list groups caller file)

-- what each evaluation says by 01's numbers
unfoldable pub evaluated_as : Result Found Refusal → Decided
evaluated_as (Ok found) = record { says = done (found.rights ∷ []); start = found.start; size = found.size }
evaluated_as (Err refusal) = bare (refusal_says refusal)

-- checking a list
pub record Checks (list : List ℕ) (r : Result (Unit {0}) Refusal) : Type 0 where
  pub answer : plain_says r ≡ check_says list

-- evaluating a list
pub record Evaluates (list groups : List ℕ) (caller : Caller) (file : File) (r : Result Found Refusal) : Type 0 where
  pub answer : evaluated_as r ≡ evaluation list groups caller file
