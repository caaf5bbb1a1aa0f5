-- The rights call: its own refusals, its answer and the deciding record.
use Rattle.std.specs.Prelude.{◌≡◌, List, [], ◌∷◌, ℕ, ◌+◌, ltb, if◌then◌else◌, Result}
use Rattle.std.specs.Borrow.{Bor}
use Rattle.words.specs.Said.{Said, done, refused}
use Rattle.words.specs.Number.{part}
use Rattle.words.specs.Refusal.{number_says}
use Rattle.words.specs.declared.refusal.Refusal.{Refusal}
use Rattle.words.specs.Realm.{unknown_realm, same_realm}
use Rattle.words.specs.declared.realm.Realm.{Realm}
use Rattle.evaluate.specs.Evaluation.{Decided, bare, unless_too_many, list_gives, evaluated_as}
use Rattle.evaluate.specs.declared.asking.Caller.{Caller}
use Rattle.evaluate.specs.declared.asking.File.{File}
use Rattle.evaluate.specs.declared.evaluation.Found.{Found}
use Rattle.rights.specs.Mode.{mode_rights}
use Rattle.rights.specs.declared.access.Access.{Access}
use Rattle.rights.specs.declared.guard.Guard.{Guard}
use Rattle.rights.specs.declared.guard.Guard.TheVariants.{List as ByList, Mode}
use Rattle.rights.specs.declared.decision.Decision.{Decision}

-- with a mode no record decides
unfoldable pub by_mode : List ℕ → Caller → File → Realm → ℕ → Decided
by_mode groups caller file local mode =
    if same_realm local unknown_realm then bare (refused 16 (0 ∷ [])) else
    if ltb 511 mode then bare (refused 22 []) else
    bare (done (mode_rights groups caller file local mode ∷ []))

unfoldable pub by_guard : Guard → List ℕ → List ℕ → Caller → File → Decided
by_guard ByList list groups caller file = list_gives list groups caller file
by_guard (Mode realm mode) list groups caller file = by_mode groups caller file realm mode

-- 23 comes before the guard is looked at
unfoldable pub decided : List ℕ → List ℕ → Caller → File → Guard → Decided
decided list groups caller file guard = unless_too_many groups (by_guard guard list groups caller file)

-- deciding, with the record as two numbers
pub record Finds (d : Decided) (r : Result Found Refusal) : Type 0 where
  pub answer : evaluated_as r ≡ d

-- by all that is lent and given
abbrev pub decided_by : Access → Decided
decided_by a = decided a.list.now a.groups.now a.caller a.file a.guard

-- the rights, by 01's numbers
abbrev pub decision_says : Decision → Said
decision_says r = number_says r.answer

-- deciding, with the record as a part of the list: its bytes, in the list's own memory at its place
pub record Decides (d : Decided) (list : Bor (List ℕ)) (r : Decision) : Type 0 where
  pub answer : decision_says r ≡ d.says
  pub bytes : r.part.now ≡ part d.start d.size list.now
  pub place : r.part.ref_ptr ≡ (list.ref_ptr.0, d.start + list.ref_ptr.1)
