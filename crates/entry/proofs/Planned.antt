-- What a plan tells: an edit that is not refused, and where its bytes go. Assumes nothing.
use Rattle.std.specs.Prelude.{Ok}
use mathlib.Core.Path.{◌≡◌, sym}
use mathlib.Core.List.{List, [], ◌∷◌}
use mathlib.Core.Bool.{true}
use Prim.Native.Nat.{ℕ}
use lib.ListN.{length}
use Rattle.words.specs.Said.{Said, done, and_then}
use Rattle.words.specs.Refusal.{says_by}
use Rattle.records.specs.Kind.{size}
use Rattle.list.specs.Checking.{check_says}
use Rattle.list.proofs.Passed.{no_values}
use Rattle.entry.specs.Entry.{is_entry, record_for}
use Rattle.entry.specs.NewList.{putting, dropping, has_entry}
use Rattle.entry.specs.Plan.{put_judged, drop_judged, spot_for, plan_at, plan_values, plan_says, PlansPut, PlansDrop}
use Rattle.entry.specs.declared.entries.Entry.{Entry}
use Rattle.entry.specs.declared.planning.Plan.{Plan}
use Rattle.entry.proofs.Ladders.{past, past_test}

-- an edit that is not refused: both lists pass, and the entry's kind is an entry's
pub record Passes (list : List ℕ) (entry : Entry) (new : List ℕ) : Type 0 where
  pub old : check_says list ≡ done []
  pub is_entry_kind : is_entry entry.kind ≡ true
  pub fine : check_says new ≡ done []

-- and its plan
pub record Planned (list : List ℕ) (entry : Entry) (judged : Said) (new : List ℕ) (width : ℕ) (plan : Plan) : Type 0 where
  pub values : List ℕ
  pub passed : judged ≡ done values
  pub passes : Passes list entry new
  pub spot : plan.spot ≡ spot_for list (record_for entry)
  pub wide : plan.size ≡ width
  pub long : plan.total ≡ length new

module _ (list : List ℕ) (entry : Entry) where
  pub put_passes : (v : List ℕ) → put_judged list entry ≡ done v → Passes list entry (putting list entry)
  unfolding put_judged
  put_passes v q =
      let a = past (check_says list) _ v (sym q) in
      let b = past_test (is_entry entry.kind) 12 (0 ∷ []) (check_says (putting list entry)) v a.1.1 in
      record { old = no_values list a.0 a.1.0; is_entry_kind = b.0; fine = no_values (putting list entry) v (sym b.1) }

  pub drop_passes : (v : List ℕ) → drop_judged list entry ≡ done v → Passes list entry (dropping list entry)
  unfolding drop_judged
  drop_passes v q =
      let a = past (check_says list) _ v (sym q) in
      let b = past_test (is_entry entry.kind) 12 (0 ∷ []) _ v a.1.1 in
      let c = past_test (has_entry list entry) 20 [] (check_says (dropping list entry)) v b.1 in
      record { old = no_values list a.0 a.1.0; is_entry_kind = b.0; fine = no_values (dropping list entry) v (sym c.1) }

module _ {list : List ℕ} {entry : Entry} {plan : Plan} where
  module _ (new : List ℕ) (width : ℕ) (judged : Said) (passes : (v : List ℕ) → judged ≡ done v → Passes list entry new) where
    planned : plan_says (Ok plan) ≡ and_then judged (plan_says (Ok (plan_at (spot_for list (record_for entry)) width (length new)))) → Planned list entry judged new width plan
    unfolding says_by plan_values plan_at
    planned q =
        let a = past judged _ _ q in
        let e = a.1.1 in
        let at : plan.spot.at ≡ (spot_for list (record_for entry)).at = cc in
        let size : plan.spot.size ≡ (spot_for list (record_for entry)).size = cc in
        record { values = a.0; passed = a.1.0; passes = passes a.0 a.1.0; spot = λ j. record { at = at j; size = size j }; wide = cc; long = cc }

  pub put_planned : PlansPut list entry (Ok plan) → Planned list entry (put_judged list entry) (putting list entry) (size entry.kind) plan
  put_planned p = planned (putting list entry) (size entry.kind) (put_judged list entry) (put_passes list entry) p.answer

  pub drop_planned : PlansDrop list entry (Ok plan) → Planned list entry (drop_judged list entry) (dropping list entry) 0 plan
  drop_planned p = planned (dropping list entry) 0 (drop_judged list entry) (drop_passes list entry) p.answer
