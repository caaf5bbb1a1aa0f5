-- Two outcomes that meet a statement are equal. Assumes nothing.
use mathlib.Core.Path.{◌≡◌, refl, sym, ◌∙◌, ap}
use mathlib.Core.List.{List, [], ◌∷◌}
use mathlib.Core.Bool.{Bool}
use Prim.Native.Nat.{ℕ}
use lib.ListN.{get_or}
use Rattle.std.specs.Prelude.{Result, Ok, Err}
use Rattle.words.specs.Said.{Said, done, refused}
use Rattle.words.specs.Refusal.{refusal_says, says_by}
use Rattle.words.specs.declared.refusal.Refusal.{Refusal}
use Rattle.words.proofs.Refusals.{same_says, same_plain}
use Rattle.evaluate.specs.Asking.{TellsGroup}
use Rattle.evaluate.specs.Evaluation.{Decided, bare, evaluated_as, Checks, Evaluates}
use Rattle.evaluate.specs.declared.asking.Caller.{Caller}
use Rattle.evaluate.specs.declared.asking.File.{File}
use Rattle.evaluate.specs.declared.evaluation.Found.{Found}

pub is_in_group_determined : (caller : Caller) (groups : List ℕ) (id : ℕ) (r r' : Bool) → TellsGroup caller groups id r → TellsGroup caller groups id r' → r ≡ r'
is_in_group_determined caller groups id r r' p q = p.answer ∙ sym q.answer

pub check_list_determined : (list : List ℕ) (r r' : Result (Unit {0}) Refusal) → Checks list r → Checks list r' → r ≡ r'
check_list_determined list r r' p q = same_plain r r' p.answer q.answer

-- what is decided, with the part as two more values
whole : Decided → Said
whole d = with_part d.says
  where
    with_part : Said → Said
    with_part (done values) = done (d.start ∷ d.size ∷ values)
    with_part (refused number values) = refused number values

values : Found → List ℕ
values found = found.start ∷ found.size ∷ found.rights ∷ []

back : List ℕ → Found
back given = record { rights = get_or given 2 0; start = get_or given 0 0; size = get_or given 1 0 }

inverse : (found : Found) → back (values found) ≡ found
unfolding back values
inverse found = refl

same_values : (r : Result Found Refusal) → says_by values r ≡ whole (evaluated_as r)
unfolding says_by values whole evaluated_as bare refusal_says
same_values (Ok found) = refl
same_values (Err refusal) = refl

-- two evaluations that decide the same are equal
pub same_evaluation : (r r' : Result Found Refusal) → evaluated_as r ≡ evaluated_as r' → r ≡ r'
same_evaluation r r' p = same_says values back inverse r r' (same_values r ∙ ap whole p) (same_values r')

pub evaluate_determined : (list groups : List ℕ) (caller : Caller) (file : File) (r r' : Result Found Refusal)
    → Evaluates list groups caller file r → Evaluates list groups caller file r' → r ≡ r'
evaluate_determined list groups caller file r r' p q = same_evaluation r r' (p.answer ∙ sym q.answer)
