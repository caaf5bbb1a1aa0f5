-- Contracts of the crate's own functions: what a scan has seen of the slots so far.
use Rattle.std.specs.Prelude.{◌≡◌, true, false, not, Option, Some, IfSome, IfNone, List, ℕ, ◌+◌, eqb, if◌then◌else◌}
use Rattle.std.specs.Option.{option_or}
use Rattle.words.specs.Test.{all_of}
use Rattle.claims.specs.Rule.{conflict}
use Rattle.claims.specs.declared.claim.Claim.{Claim}
use Rattle.table.specs.Table.{is_free, is_in_the_way}
use Rattle.table.specs.Layout.{slots_in, table_of}
use Rattle.table.specs.Form.{is_slot}
use Rattle.table.specs.declared.slot.Slot.{Slot}
use Rattle.widest.specs.Widest.{is_rival, beside, narrowed, widened, over}
use Rattle.surveys.specs.Survey.{Saw}
use Rattle.surveys.specs.declared.scan.Seen.{Seen}
use Rattle.surveys.specs.declared.wide.SeenWide.{SeenWide}

-- one slot more, the one at i
pub record Passes (seen : Seen) (i : ℕ) (slot : Slot) (claim : Claim) (r : Seen) : Type 0 where
  pub conflicts : r.conflicts ≡ (if is_in_the_way claim slot then seen.conflicts + 1 else seen.conflicts)
  pub free : r.free ≡ (if is_free slot then option_or seen.free (Some i) else seen.free)

pub record PassesToken (seen : Seen) (held claim : Claim) (r : Seen) : Type 0 where
  pub conflicts : r.conflicts ≡ (if not (eqb (conflict held claim) 0) then seen.conflicts + 1 else seen.conflicts)
  pub free : r.free ≡ seen.free

pub record SurveysSlots (bytes : List ℕ) (claim : Claim) (top next : ℕ) (r : Option Seen) : Type 0 where
  pub saw : IfSome r (λ seen. (all_of (is_slot top next) (slots_in bytes) ≡ true) × Saw (table_of bytes).slots claim seen)
  pub ill : IfNone r (all_of (is_slot top next) (slots_in bytes) ≡ false)

-- the same, and the range that the tokens leave
pub record PassesTokenWide (told : SeenWide) (held claim : Claim) (r : SeenWide) : Type 0 where
  pub passes : PassesToken told.seen held claim r.seen
  pub leaves : over claim r.range ≡ (if is_rival claim held then beside claim (over claim told.range) held else over claim told.range)

pub record PassesWide (told : SeenWide) (i : ℕ) (slot : Slot) (claim : Claim) (r : SeenWide) : Type 0 where
  pub passes : Passes told.seen i slot claim r.seen
  pub leaves : over claim r.range ≡ narrowed claim (over claim told.range) slot

pub record SurveysSlotsWide (bytes : List ℕ) (claim : Claim) (top next : ℕ) (r : Option SeenWide) : Type 0 where
  pub saw : IfSome r (λ told. (all_of (is_slot top next) (slots_in bytes) ≡ true) × Saw (table_of bytes).slots claim told.seen × (over claim told.range ≡ widened claim (table_of bytes)))
  pub ill : IfNone r (all_of (is_slot top next) (slots_in bytes) ≡ false)
