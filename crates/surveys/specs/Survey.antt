-- What one scan of a table tells of a claim.
use Rattle.std.specs.Prelude.{◌≡◌, true, false, Result, IfOk, IfErr, List, [], ◌∷◌, ℕ, length, position}
use Rattle.words.specs.Test.{those}
use Rattle.words.specs.Said.{Said}
use Rattle.words.specs.Refusal.{says_by}
use Rattle.words.specs.declared.refusal.Refusal.{Refusal}
use Rattle.words.specs.declared.refusal.Refusal.TheVariants.{NotWellFormed}
use Rattle.claims.specs.declared.claim.Claim.{Claim}
use Rattle.table.specs.Table.{is_free, is_in_the_way}
use Rattle.table.specs.Layout.{table_of}
use Rattle.table.specs.Form.{well_formed}
use Rattle.table.specs.declared.slot.Slot.{Slot}
use Rattle.widest.specs.Widest.{widened, over}
use Rattle.surveys.specs.declared.scan.Seen.{Seen}
use Rattle.surveys.specs.declared.wide.SeenWide.{SeenWide}

-- of slots: how many tokens are in the way, and the lowest free slot
pub record Saw (slots : List Slot) (claim : Claim) (r : Seen) : Type 0 where
  pub conflicts : r.conflicts ≡ length (those (is_in_the_way claim) slots)
  pub free : r.free ≡ position is_free slots

-- what is said by 01's numbers: how many are in the way, and the widest range's ends
abbrev pub survey_says : Result Seen Refusal → Said
survey_says = says_by (λ seen. seen.conflicts ∷ [])

abbrev pub survey_wide_says : Result SeenWide Refusal → Said
survey_wide_says = says_by (λ told. told.seen.conflicts ∷ told.range.first ∷ told.range.last ∷ [])

-- surveying a table; of one that is not well formed nothing is told
pub record Surveys (bytes : List ℕ) (claim : Claim) (r : Result Seen Refusal) : Type 0 where
  pub saw : IfOk r (λ seen. (well_formed bytes ≡ true) × Saw (table_of bytes).slots claim seen)
  pub ill : IfErr r (λ refusal. (well_formed bytes ≡ false) × (refusal ≡ NotWellFormed))

-- surveying a table for the widest range
pub record SurveysWide (bytes : List ℕ) (claim : Claim) (r : Result SeenWide Refusal) : Type 0 where
  pub saw : IfOk r (λ told. (well_formed bytes ≡ true) × Saw (table_of bytes).slots claim told.seen × (over claim told.range ≡ widened claim (table_of bytes)))
  pub ill : IfErr r (λ refusal. (well_formed bytes ≡ false) × (refusal ≡ NotWellFormed))
