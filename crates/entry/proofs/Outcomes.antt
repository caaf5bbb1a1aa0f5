-- How a plan ends: refused before the new list is looked at, for nothing to drop, by the new list; or with the splice. Assumes nothing.
use Rattle.std.specs.Prelude.{if◌then◌else◌, Ok, Err}
use mathlib.Core.Path.{◌≡◌, refl, sym, ◌∙◌, ap}
use mathlib.Core.List.{List, [], ◌∷◌}
use mathlib.Core.Bool.{true, false, not}
use Prim.Native.Nat.{ℕ, ◌+◌, ◌<◌}
use borrow.Author.Tests.{lt-ltb}
use lib.Dec.{ltb}
use lib.ListN.{length}
use Rattle.words.specs.Said.{done, refused, and_then}
use Rattle.words.specs.Refusal.{number_of, refusal_number, refusal_value, values_in, refusal_says, says_by, plain_says}
use Rattle.words.specs.declared.refusal.Refusal.{Refusal}
use Rattle.words.specs.declared.refusal.Fault.TheVariants.{UnknownKind}
use Rattle.words.specs.declared.refusal.Refusal.TheVariants.{Faulty, NothingToDrop}
use Rattle.list.specs.Checking.{check_says}
use Rattle.list.proofs.Passed.{no_values}
use Rattle.evaluate.specs.Evaluation.{Checks}
use Rattle.records.specs.declared.records.Record.{Record}
use Rattle.entry.specs.Entry.{is_entry}
use Rattle.entry.specs.NewList.{has_entry}
use Rattle.entry.specs.Plan.{put_judged, drop_judged, plan_at, plan_says, PlansPut, PlansDrop}
use Rattle.entry.specs.Spot.{Asks, put_verdict, drop_verdict}
use Rattle.entry.specs.declared.entries.Entry.{Entry}
use Rattle.entry.specs.declared.spot.Spot.{Spot}
use Rattle.entry.proofs.Ladders.{past, past_test, stops, stops_before}
use Rattle.entry.proofs.Located.{Located, entered as is_entered, spot_is, size_is, put_long, drop_long, put_judged_lem, drop_judged_lem, told}

-- where nothing is refused before the new list is looked at, the old one passes and the kind is an entry's
module _ {list : List ℕ} {kind : ℕ} {none : Unit {0}} (asks : Asks list kind (Ok none)) where
  both : (w : List ℕ) × ((check_says list ≡ done w) × (done [] ≡ (if not (is_entry kind) then refused 12 (0 ∷ []) else done [])))
  unfolding says_by
  both = past (check_says list) _ [] asks.answer

  pub passing : check_says list ≡ done []
  passing = no_values list both.0 both.1.0

  pub entered : is_entry kind ≡ true
  entered = (past_test (is_entry kind) 12 (0 ∷ []) (done []) [] both.1.1).0

passed : {list : List ℕ} {none : Unit {0}} → Checks list (Ok none) → check_says list ≡ done []
unfolding says_by
passed checks = sym checks.answer

-- else the refusal is that of the old list, or of the kind
module _ {list : List ℕ} {kind : ℕ} where
  pub unchecked : {e : Refusal} → Checks list (Err e) → Asks list kind (Err e)
  unfolding says_by
  unchecked {e} checks = record { answer = stops e (check_says list) _ (sym checks.answer) }

  pub unknown : {none : Unit {0}} → Checks list (Ok none) → is_entry kind ≡ false → Asks list kind (Err (Faulty UnknownKind 0))
  unfolding says_by refusal_says refusal_number number_of refusal_value values_in and_then
  unknown checks other = record { answer = rw (passed checks, other) refl }

  pub known : {none : Unit {0}} → Checks list (Ok none) → is_entry kind ≡ true → Asks list kind (Ok none)
  unfolding says_by and_then
  known checks entry = record { answer = rw (passed checks, entry) refl }

module _ {list : List ℕ} {entry : Entry} where
  -- refused before the new list is looked at
  module _ {e : Refusal} (asks : Asks list entry.kind (Err e)) where
    pub put_asked : PlansPut list entry (Err e)
    unfolding put_judged says_by
    put_asked = record { answer = stops e (put_judged list entry) _ (stops_before e (check_says list) (not (is_entry entry.kind)) 12 (0 ∷ []) _ asks.answer) }

    pub drop_asked : PlansDrop list entry (Err e)
    unfolding drop_judged says_by
    drop_asked = record { answer = stops e (drop_judged list entry) _ (stops_before e (check_says list) (not (is_entry entry.kind)) 12 (0 ∷ []) _ asks.answer) }

  module _ {r : Record} {s : Spot} (located : Located list entry r s) where
    pub drop_nothing : s.size ≡ 0 → PlansDrop list entry (Err NothingToDrop)
    unfolding drop_judged and_then says_by refusal_says refusal_number refusal_value values_in
    drop_nothing z =
        let none : has_entry list entry ≡ false = sym (told located) ∙ ap (ltb 0) z in
        record { answer = rw (located.passing, is_entered located, none) refl }

    -- by the verdict on the new list, n bytes long
    module _ (n : ℕ) where
      module _ (long : n + s.size ≡ length list + r.size) where
        put_new : put_judged list entry ≡ put_verdict list r s.at n
        unfolding put_judged and_then
        put_new = rw (located.passing, is_entered located) (put_judged_lem located n long)

        pub put_refused : {e : Refusal} → plain_says (Err e) ≡ put_verdict list r s.at n → PlansPut list entry (Err e)
        unfolding says_by
        put_refused {e} judged = record { answer = stops e (put_judged list entry) _ (put_new ∙ sym judged) }

        pub put_fine : {none : Unit {0}} → plain_says (Ok none) ≡ put_verdict list r s.at n → PlansPut list entry (Ok (plan_at s r.size n))
        unfolding says_by and_then
        put_fine judged = record {
          answer = rw (put_new ∙ sym judged) (λ j. plan_says (Ok (plan_at (spot_is located j) (size_is located j) (put_long located n long j))));
        }

      module _ (long : n + s.size ≡ length list) (some : 0 < s.size) where
        drop_new : drop_judged list entry ≡ drop_verdict entry.kind s.at n
        unfolding drop_judged and_then
        drop_new =
            let there : has_entry list entry ≡ true = sym (told located) ∙ lt-ltb 0 s.size some in
            rw (located.passing, is_entered located, there) (drop_judged_lem located n long)

        pub drop_refused : {e : Refusal} → plain_says (Err e) ≡ drop_verdict entry.kind s.at n → PlansDrop list entry (Err e)
        unfolding says_by
        drop_refused {e} judged = record { answer = stops e (drop_judged list entry) _ (drop_new ∙ sym judged) }

        pub drop_fine : {none : Unit {0}} → plain_says (Ok none) ≡ drop_verdict entry.kind s.at n → PlansDrop list entry (Ok (plan_at s 0 n))
        unfolding says_by and_then
        drop_fine judged = record {
          answer = rw (drop_new ∙ sym judged) (λ j. plan_says (Ok (plan_at (spot_is located j) 0 (drop_long located n long j))));
        }
