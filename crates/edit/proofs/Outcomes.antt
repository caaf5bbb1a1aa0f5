-- How an edit ends: refused by its plan, for room, or with the new list written. Assumes nothing.
use mathlib.Core.Path.{◌≡◌, refl, sym, ap}
use mathlib.Core.List.{List, []}
use mathlib.Core.Bool.{true}
use Prim.Native.Nat.{ℕ, ◌+◌, ◌<◌}
use native.Mathlib.Omega.{arith}
use lib.ListN.{length}
use Rattle.std.specs.Prelude.{Result, Ok, Err}
use Rattle.words.specs.Refusal.{refusal_says, says_by, number_says}
use Rattle.words.specs.declared.refusal.Refusal.{Refusal}
use Rattle.words.specs.Said.{Said, done, and_then, left}
use Rattle.words.specs.Number.{Bytes}
use Rattle.records.specs.Kind.{size as size_of}
use Rattle.entry.specs.Entry.{is_entry, record_for}
use Rattle.entry.specs.Spelling.{spelled}
use Rattle.entry.specs.NewList.{putting, dropping}
use Rattle.entry.specs.Plan.{put_judged, drop_judged, spot_for, PlansPut, PlansDrop}
use Rattle.entry.specs.declared.entries.Entry.{Entry}
use Rattle.entry.specs.declared.spot.Spot.{Spot}
use Rattle.entry.specs.declared.planning.Plan.{Plan}
use Rattle.entry.proofs.Lengths.{is_above}
use Rattle.entry.proofs.Parts.{before_spot, behind_spot, inside, put_spelled, drop_spelled, put_length, drop_length}
use Rattle.entry.proofs.Ladders.{stopped}
use Rattle.entry.proofs.Planned.{Planned, put_planned, drop_planned}
use Rattle.edit.specs.Editing.{room_says, put_says, drop_says, Puts, Drops}
use Rattle.edit.specs.Writing.{splice, Fits, Writes}

-- what is said of a new list that was judged, and what is left of the buffer
module _ (judged : Said) (new out : List ℕ) where
  record Ends (r : Result ℕ Refusal) (after : List ℕ) : Type 0 where
    answer : number_says r ≡ and_then judged (room_says new out)
    out_after : after ≡ left (and_then judged (room_says new out)) new out

  -- refused by its plan
  refused_by : (v : List ℕ) {e : Refusal} → refusal_says e ≡ and_then judged (done v) → Ends (Err e) out
  unfolding says_by refusal_says left and_then
  refused_by v {e} says = let q = stopped e judged v says in record { answer = rw q refl; out_after = rw q refl }

  -- or written
  written : {values : List ℕ} {r : Result ℕ Refusal} {after : List ℕ} → judged ≡ done values → Writes new out r after → Ends r after
  unfolding and_then
  written q w = record { answer = rw q w.answer; out_after = rw q w.out_after }

module _ {list : List ℕ} {entry : Entry} {out : List ℕ} {r : Result ℕ Refusal} {after : List ℕ} where
  puts : Ends (put_judged list entry) (putting list entry) out r after → Puts list entry out r after
  unfolding put_says
  puts e = record { answer = e.answer; out_after = e.out_after }

  drops : Ends (drop_judged list entry) (dropping list entry) out r after → Drops list entry out r after
  unfolding drop_says
  drops e = record { answer = e.answer; out_after = e.out_after }

module _ {list : List ℕ} {entry : Entry} where
  module _ {out : List ℕ} {e : Refusal} where
    pub put_refused : PlansPut list entry (Err e) → Puts list entry out (Err e) out
    unfolding says_by
    put_refused plans = puts (refused_by (put_judged list entry) (putting list entry) out _ plans.answer)

    pub drop_refused : PlansDrop list entry (Err e) → Drops list entry out (Err e) out
    unfolding says_by
    drop_refused plans = drops (refused_by (drop_judged list entry) (dropping list entry) out _ plans.answer)

  module _ (bytes : Bytes list) {plan : Plan} where
    module _ {judged : Said} {new : List ℕ} {width : ℕ} (planned : Planned list entry judged new width plan) where
      above : 1 < (record_for entry).kind
      unfolding record_for
      above = is_above entry.kind planned.passes.is_entry_kind

      fits : length new + (spot_for list (record_for entry)).size ≡ length list + width → Fits list plan
      fits e =
          let w = ap (λ (s : Spot). s.size) planned.spot in
          record {
            inside = rw planned.spot (inside list bytes planned.passes.old (record_for entry) above);
            long = omega (arith, e, w, planned.long, planned.wide);
          }

      -- the new lists as they are written
      put_bytes : splice list plan.spot (spelled (record_for entry)) ≡ putting list entry
      unfolding splice putting
      put_bytes =
          rw (planned.spot, before_spot list bytes planned.passes.old (record_for entry) above, behind_spot list bytes planned.passes.old (record_for entry) above)
          (sym (put_spelled list bytes planned.passes.old (record_for entry) above))

      drop_bytes : splice list plan.spot [] ≡ dropping list entry
      unfolding splice dropping
      drop_bytes =
          rw (planned.spot, before_spot list bytes planned.passes.old (record_for entry) above, behind_spot list bytes planned.passes.old (record_for entry) above)
          (sym (drop_spelled list bytes planned.passes.old (record_for entry) above))

    module _ (plans : PlansPut list entry (Ok plan)) where
      put_plan : Planned list entry (put_judged list entry) (putting list entry) (size_of entry.kind) plan
      put_plan = put_planned plans

      pub put_fits : Fits list plan × (is_entry entry.kind ≡ true) × (plan.size ≡ size_of entry.kind)
      unfolding putting record_for
      put_fits =
          (fits put_plan (put_length list bytes put_plan.passes.old (record_for entry) (above put_plan)), put_plan.passes.is_entry_kind, put_plan.wide)

      pub put_written : {out : List ℕ} {r : Result ℕ Refusal} {after : List ℕ} → Writes (splice list plan.spot (spelled (record_for entry))) out r after → Puts list entry out r after
      put_written {out} w = puts (written (put_judged list entry) (putting list entry) out put_plan.passed (rw (put_bytes put_plan) at w))

    module _ (plans : PlansDrop list entry (Ok plan)) where
      drop_plan : Planned list entry (drop_judged list entry) (dropping list entry) 0 plan
      drop_plan = drop_planned plans

      pub drop_fits : Fits list plan × (plan.size ≡ 0)
      unfolding dropping
      drop_fits =
          let l = drop_length list bytes drop_plan.passes.old (record_for entry) (above drop_plan) in
          (fits drop_plan (omega (arith, l)), drop_plan.wide)

      pub drop_written : {out : List ℕ} {r : Result ℕ Refusal} {after : List ℕ} → Writes (splice list plan.spot []) out r after → Drops list entry out r after
      drop_written {out} w = drops (written (drop_judged list entry) (dropping list entry) out drop_plan.passed (rw (drop_bytes drop_plan) at w))
