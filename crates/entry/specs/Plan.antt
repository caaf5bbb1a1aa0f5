-- What an edit comes to, before a byte is written.
use Rattle.std.specs.Prelude.{◌≡◌, List, [], ◌∷◌, not, ℕ, length, if◌then◌else◌, Result, Ok}
use Rattle.words.specs.Test.{those}
use Rattle.words.specs.Said.{Said, refused, and_then}
use Rattle.words.specs.Refusal.{says_by}
use Rattle.words.specs.declared.refusal.Refusal.{Refusal}
use Rattle.records.specs.Kind.{size}
use Rattle.records.specs.Standing.{rises}
use Rattle.list.specs.Checking.{check_says}
use Rattle.records.specs.declared.records.Record.{Record}
use Rattle.entry.specs.Entry.{is_entry, record_for}
use Rattle.entry.specs.Spelling.{spell}
use Rattle.entry.specs.NewList.{records_in, same_entry, putting, dropping, has_entry}
use Rattle.entry.specs.declared.entries.Entry.{Entry}
use Rattle.entry.specs.declared.spot.Spot.{Spot}
use Rattle.entry.specs.declared.planning.Plan.{Plan}

-- the old list's own refusals come first, then a kind outside 2 to 11 (12, place 0), then 20, then the new list's refusals
module _ (list : List ℕ) (entry : Entry) where
  unfoldable pub put_judged : Said
  put_judged =
      and_then (check_says list)
      (if not (is_entry entry.kind) then refused 12 (0 ∷ []) else
      check_says (putting list entry))

  unfoldable pub drop_judged : Said
  drop_judged =
      and_then (check_says list)
      (if not (is_entry entry.kind) then refused 12 (0 ∷ []) else
      if not (has_entry list entry) then refused 20 [] else
      check_says (dropping list entry))

-- the place after the records that come before one, and the length of the one of the same kind, realm and id, if there is one
unfoldable pub spot_for : List ℕ → Record → Spot
spot_for list r = record {
  at = length (spell (those (λ q. rises q r) (records_in list)));
  size = length (spell (those (same_entry r) (records_in list)));
}

-- so many bytes come to a spot; the new list's length
unfoldable pub plan_at : Spot → ℕ → ℕ → Plan
plan_at spot width total = record { spot = spot; size = width; total = total }

-- what a plan says: the place, how many bytes give way there, how many come, and the new list's length
unfoldable pub plan_values : Plan → List ℕ
plan_values plan = plan.spot.at ∷ plan.spot.size ∷ plan.size ∷ plan.total ∷ []

-- what planning says by 01's numbers
abbrev pub plan_says : Result Plan Refusal → Said
plan_says = says_by plan_values

-- planning a put
pub record PlansPut (list : List ℕ) (entry : Entry) (r : Result Plan Refusal) : Type 0 where
  pub answer : plan_says r ≡ and_then (put_judged list entry) (plan_says (Ok (plan_at (spot_for list (record_for entry)) (size entry.kind) (length (putting list entry)))))

-- planning a drop
pub record PlansDrop (list : List ℕ) (entry : Entry) (r : Result Plan Refusal) : Type 0 where
  pub answer : plan_says r ≡ and_then (drop_judged list entry) (plan_says (Ok (plan_at (spot_for list (record_for entry)) 0 (length (dropping list entry)))))
