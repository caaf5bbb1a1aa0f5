-- Two outcomes that meet a statement are equal. Assumes nothing.
use Rattle.std.specs.Prelude.{Result}
use mathlib.Core.Path.{◌≡◌, refl}
use mathlib.Core.List.{List}
use Prim.Native.Nat.{ℕ}
use lib.ListN.{get_or}
use Rattle.words.specs.declared.refusal.Refusal.{Refusal}
use Rattle.words.proofs.Refusals.{same_says}
use Rattle.entry.specs.Plan.{plan_values, PlansPut, PlansDrop}
use Rattle.entry.specs.declared.entries.Entry.{Entry}
use Rattle.entry.specs.declared.planning.Plan.{Plan}

-- a plan by its values
unfoldable plan_of : List ℕ → Plan
plan_of values = record {
  spot = record { at = get_or values 0 0; size = get_or values 1 0 };
  size = get_or values 2 0;
  total = get_or values 3 0;
}

plan_back : (plan : Plan) → plan_of (plan_values plan) ≡ plan
unfolding plan_of plan_values
plan_back plan = refl

module _ (list : List ℕ) (entry : Entry) (r r' : Result Plan Refusal) where
  pub plan_put_determined : PlansPut list entry r → PlansPut list entry r' → r ≡ r'
  plan_put_determined a b = same_says plan_values plan_of plan_back r r' a.answer b.answer

  pub plan_drop_determined : PlansDrop list entry r → PlansDrop list entry r' → r ≡ r'
  plan_drop_determined a b = same_says plan_values plan_of plan_back r r' a.answer b.answer
