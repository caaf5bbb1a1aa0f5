-- One scan: the form, the tokens in the way, the lowest free slot. Assumes nothing.
use Rattle.std.specs.Prelude.{Option, None, Some, Err}
use Rattle.std.specs.Option.{ok_or}
use mathlib.Core.Path.{◌≡◌, refl, sym, ◌∙◌, ap}
use mathlib.Core.Bool.{Bool, true, false}
use mathlib.Core.List.{List, [], ◌∷◌, ◌++◌, map}
use mathlib.Core.Logic.{◌≢◌}
use Prim.Native.Nat.{ℕ, ◌+◌, ◌≤◌, ◌<◌}
use native.Mathlib.Omega.{arith}
use borrow.Author.Tests.{eqb-false, ne_eqb, not-true}
use lib.Dec.{eqb}
use lib.ListN.{length, drop, length-append, length-map}
use Rattle.words.specs.Test.{those}
use Rattle.words.specs.declared.refusal.Refusal.TheVariants.{NotWellFormed}
use Rattle.words.proofs.Tests.{map_append, those_few, counted_more}
use Rattle.claims.specs.Claim.{with_range}
use Rattle.claims.specs.Rule.{conflict}
use Rattle.claims.specs.declared.claim.Claim.{Claim}
use Rattle.claims.proofs.Ranges.{elsewhere}
use Rattle.table.specs.Table.{limit, is_free, is_in_the_way}
use Rattle.table.specs.Layout.{width, slot_of, count, next_in, table_of}
use Rattle.table.specs.Form.{is_slot, opening, well_formed}
use Rattle.table.specs.declared.slot.Slot.{Slot}
use Rattle.table.proofs.Cuts.{slots_length}
use Rattle.table.proofs.Slots.{cuts, none_passed, one_passed, all_passed}
use Rattle.table.proofs.Places.{position_more}
use Rattle.table.proofs.Scans.{Checked, none_checked, one_checked, one_bad, all_checked}
use Rattle.widest.specs.Widest.{last_byte, is_rival, widened, over, Leaves}
use Rattle.widest.specs.declared.range.Range.{Range}
use Rattle.widest.proofs.Narrowed.{Narrowed, none_narrowed, one_narrowed, no_rival, across_it}
use Rattle.surveys.specs.Survey.{Saw, Surveys, SurveysWide}
use Rattle.surveys.specs.Scan.{Passes, PassesToken, PassesTokenWide, PassesWide, SurveysSlots, SurveysSlotsWide}
use Rattle.surveys.specs.declared.scan.Seen.{Seen}
use Rattle.surveys.specs.declared.wide.SeenWide.{SeenWide}

-- what was seen of the first i slots
pub record Looked (bytes : List ℕ) (claim : Claim) (top next size : ℕ) (rest : List ℕ) (i : ℕ) (seen : Seen) : Type 0 where
  pub few : count bytes ≤ 1024
  pub checked : Checked bytes top next size rest
  pub at : i ≡ length checked.slots.passed
  pub saw : Saw (map slot_of checked.slots.passed) claim seen

module _ {bytes : List ℕ} (claim : Claim) (top next : ℕ) where
  unfoldable pub none_looked : {size : ℕ} {rest : List ℕ} {i : ℕ} → count bytes ≤ 1024 → size ≡ width → rest ≡ drop width bytes → i ≡ 0
      → Looked bytes claim top next size rest i (record { conflicts = 0; free = None })
  unfolding those none_checked none_passed
  none_looked few w r z = record { few = few; checked = none_checked top next w r; at = z; saw = record { conflicts = refl; free = refl } }

module _ {bytes : List ℕ} {claim : Claim} {top next size : ℕ} {rest : List ℕ} {i : ℕ} {seen : Seen} (so_far : Looked bytes claim top next size rest i seen) where
  pub few_conflicts : seen.conflicts ≤ 1024
  few_conflicts =
      omega (
        arith,
        so_far.saw.conflicts,
        those_few (is_in_the_way claim) (map slot_of so_far.checked.slots.passed),
        length-map so_far.checked.slots.passed slot_of,
        ap length so_far.checked.slots.whole,
        length-append so_far.checked.slots.passed (cuts rest),
        slots_length bytes,
        so_far.few,
      )

  module _ (slot more : List ℕ) (given : (rest ≡ slot ++ more) × (length slot ≡ size)) {b : Bool} (told : b ≡ is_slot top next slot) where
    unfoldable pub one_looked : {value : Slot} {r : Seen} {size' : ℕ} {i' : ℕ} → b ≡ true → size' ≡ size → i' ≡ i + 1 → value ≡ slot_of slot → Passes seen i value claim r
        → Looked bytes claim top next size' more i' r
    unfolding one_checked one_passed
    one_looked {value} {r} good w n read p =
        let passed = so_far.checked.slots.passed in
        let before = map slot_of passed in
        let longer : map slot_of (passed ++ slot ∷ []) ≡ before ++ value ∷ [] = map_append slot_of passed (slot ∷ []) ∙ rw read refl in
        let at : i ≡ length before = so_far.at ∙ sym (length-map passed slot_of) in
        record {
          few = so_far.few;
          checked = one_checked so_far.checked slot more given told good w;
          at = n ∙ omega (arith, so_far.at, length-append passed (slot ∷ []));
          saw = record {
            conflicts = p.conflicts ∙ rw (so_far.saw.conflicts, longer) (sym (counted_more (is_in_the_way claim) before value));
            free = p.free ∙ rw (so_far.saw.free, longer, at) (sym (position_more is_free before value));
          };
        }

    pub ill_looked : b ≡ false → SurveysSlots bytes claim top next None
    ill_looked bad = record { saw = tt; ill = sym (one_bad so_far.checked slot more given told bad) }

  pub all_looked : length rest < size → SurveysSlots bytes claim top next (Some seen)
  unfolding table_of
  all_looked h = record {
    saw = (sym (all_checked so_far.checked h), rw (all_passed so_far.checked.slots h) so_far.saw);
    ill = tt;
  }

-- a token that is no rival changes nothing, and one that is leaves a side of the range
module _ (told : SeenWide) (held claim : Claim) where
  pub no_rival_passed : claim.last ≤ last_byte → is_rival claim held ≡ false → PassesTokenWide told held claim told
  no_rival_passed top e = record {
    passes = record { conflicts = rw (no_rival held claim e claim.first claim.last top) refl; free = refl };
    leaves = rw e refl;
  }

  pub rival_meets : is_rival claim held ≡ true → claim.first ≤ held.last → held.first ≤ claim.last
      → PassesTokenWide told held claim (record { seen = record { conflicts = told.seen.conflicts + 1; free = told.seen.free }; range = told.range })
  unfolding is_rival
  rival_meets e p q =
      let rival : conflict held (with_range claim 0 last_byte) ≢ 0 = eqb-false (conflict held (with_range claim 0 last_byte)) 0 (not-true (eqb (conflict held (with_range claim 0 last_byte)) 0) e) in
      let way : conflict held claim ≢ 0 = λ none. elsewhere held claim 0 last_byte claim.first claim.last rival none q p in
      record {
        passes = record { conflicts = rw (ne_eqb (conflict held claim) 0 way) refl; free = refl };
        leaves = across_it claim held (over claim told.range) p q ∙ rw e refl;
      }

  pub rival_passed : is_rival claim held ≡ true → {seen : Seen} {left : Range} → PassesToken told.seen held claim seen → Leaves claim told.range held left
      → PassesTokenWide told held claim (record { seen = seen; range = left })
  rival_passed e p l = record { passes = p; leaves = l.answer ∙ rw e refl }

-- and what range they leave
pub record LookedWide (bytes : List ℕ) (claim : Claim) (top next size : ℕ) (rest : List ℕ) (i : ℕ) (told : SeenWide) : Type 0 where
  pub looked : Looked bytes claim top next size rest i told.seen
  pub narrowed : Narrowed claim (map slot_of looked.checked.slots.passed) told.range

module _ {bytes : List ℕ} (claim : Claim) (top next : ℕ) where
  pub none_looked_wide : {size : ℕ} {rest : List ℕ} {i : ℕ} → count bytes ≤ 1024 → size ≡ width → rest ≡ drop width bytes → i ≡ 0
      → LookedWide bytes claim top next size rest i (record { seen = record { conflicts = 0; free = None }; range = record { first = 0; last = last_byte } })
  unfolding none_looked none_checked none_passed
  none_looked_wide few w r z = record { looked = none_looked claim top next few w r z; narrowed = none_narrowed }

module _ {bytes : List ℕ} {claim : Claim} {top next size : ℕ} {rest : List ℕ} {i : ℕ} {seen : SeenWide} (so_far : LookedWide bytes claim top next size rest i seen) where
  module _ (slot more : List ℕ) (given : (rest ≡ slot ++ more) × (length slot ≡ size)) {b : Bool} (told : b ≡ is_slot top next slot) where
    pub one_looked_wide : {value : Slot} {r : SeenWide} {size' : ℕ} {i' : ℕ} → b ≡ true → size' ≡ size → i' ≡ i + 1 → value ≡ slot_of slot → PassesWide seen i value claim r
        → LookedWide bytes claim top next size' more i' r
    unfolding one_looked one_checked one_passed
    one_looked_wide {value} {r} good w n read p = record {
      looked = one_looked so_far.looked slot more given told good w n read p.passes;
      narrowed =
          let passed = so_far.looked.checked.slots.passed in
          let longer : map slot_of (passed ++ slot ∷ []) ≡ map slot_of passed ++ value ∷ [] = map_append slot_of passed (slot ∷ []) ∙ rw read refl in
          rw longer (one_narrowed so_far.narrowed value p.leaves);
    }

    pub ill_looked_wide : b ≡ false → SurveysSlotsWide bytes claim top next None
    ill_looked_wide bad = record { saw = tt; ill = (ill_looked so_far.looked slot more given told bad).ill }

  pub all_looked_wide : length rest < size → SurveysSlotsWide bytes claim top next (Some seen)
  unfolding table_of widened
  all_looked_wide h =
      let s = (all_looked so_far.looked h).saw in
      record { saw = (s.0, s.1, so_far.narrowed.left ∙ rw (all_passed so_far.looked.checked.slots h) refl); ill = tt }

-- of the whole table
pub no_survey : (bytes : List ℕ) (claim : Claim) {b : Bool} → b ≡ opening bytes → b ≡ false → Surveys bytes claim (Err NotWellFormed)
unfolding well_formed
no_survey bytes claim told bad = record { saw = tt; ill = (rw (← told, bad) refl, refl) }

pub whole_survey : (bytes : List ℕ) (claim : Claim) {b : Bool} → b ≡ opening bytes → b ≡ true → (r : Option Seen)
    → SurveysSlots bytes claim (limit (table_of bytes)) (next_in bytes) r → Surveys bytes claim (ok_or r NotWellFormed)
unfolding well_formed
whole_survey bytes claim told good (Some seen) s = record { saw = (rw (← told, good) s.saw.0, s.saw.1); ill = tt }
whole_survey bytes claim told good None s = record { saw = tt; ill = (rw (← told, good) s.ill, refl) }

pub no_survey_wide : (bytes : List ℕ) (claim : Claim) {b : Bool} → b ≡ opening bytes → b ≡ false → SurveysWide bytes claim (Err NotWellFormed)
no_survey_wide bytes claim told bad = record { saw = tt; ill = (no_survey bytes claim told bad).ill }

pub whole_survey_wide : (bytes : List ℕ) (claim : Claim) {b : Bool} → b ≡ opening bytes → b ≡ true → (r : Option SeenWide)
    → SurveysSlotsWide bytes claim (limit (table_of bytes)) (next_in bytes) r → SurveysWide bytes claim (ok_or r NotWellFormed)
unfolding well_formed
whole_survey_wide bytes claim told good (Some seen) s = record { saw = (rw (← told, good) s.saw.0, s.saw.1, s.saw.2); ill = tt }
whole_survey_wide bytes claim told good None s = record { saw = tt; ill = (rw (← told, good) s.ill, refl) }
