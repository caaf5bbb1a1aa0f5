-- Two outcomes that meet a statement are equal. Assumes nothing.
use Rattle.std.specs.Prelude.{Result, Ok, Err}
use mathlib.Core.Path.{◌≡◌, sym, ◌∙◌, ap}
use mathlib.Core.List.{List}
use Prim.Native.Nat.{ℕ}
use Rattle.words.specs.declared.refusal.Refusal.{Refusal}
use Rattle.words.proofs.Tests.{differ}
use Rattle.claims.specs.declared.claim.Claim.{Claim}
use Rattle.table.specs.declared.slot.Slot.{Slot}
use Rattle.surveys.specs.Survey.{Saw, Surveys, SurveysWide}
use Rattle.surveys.specs.declared.scan.Seen.{Seen}
use Rattle.surveys.specs.declared.wide.SeenWide.{SeenWide}

same_seen : {slots : List Slot} {claim : Claim} {r r' : Seen} → Saw slots claim r → Saw slots claim r' → r ≡ r'
same_seen p q = (λ k. record { conflicts = (p.conflicts ∙ sym q.conflicts) k; free = (p.free ∙ sym q.free) k })

module _ (bytes : List ℕ) (claim : Claim) where
  pub survey_determined : (r r' : Result Seen Refusal) → Surveys bytes claim r → Surveys bytes claim r' → r ≡ r'
  survey_determined (Ok seen) (Ok seen') p q = ap Ok (same_seen p.saw.1 q.saw.1)
  survey_determined (Ok seen) (Err refusal) p q = absurd (differ (sym p.saw.0 ∙ q.ill.0))
  survey_determined (Err refusal) (Ok seen) p q = absurd (differ (sym q.saw.0 ∙ p.ill.0))
  survey_determined (Err refusal) (Err refusal') p q = ap Err (p.ill.1 ∙ sym q.ill.1)

  both : (r r' : SeenWide) → r.seen ≡ r'.seen → r.range.first ≡ r'.range.first → r.range.last ≡ r'.range.last → r ≡ r'
  both r r' s f l = (λ k. record { seen = s k; range = record { first = f k; last = l k } })

  pub survey_wide_determined : (r r' : Result SeenWide Refusal) → SurveysWide bytes claim r → SurveysWide bytes claim r' → r ≡ r'
  survey_wide_determined (Ok told) (Ok told') p q =
      let w = p.saw.2 ∙ sym q.saw.2 in
      ap Ok (both told told' (same_seen p.saw.1 q.saw.1) (ap (λ (c : Claim). c.first) w) (ap (λ (c : Claim). c.last) w))
  survey_wide_determined (Ok told) (Err refusal) p q = absurd (differ (sym p.saw.0 ∙ q.ill.0))
  survey_wide_determined (Err refusal) (Ok told) p q = absurd (differ (sym q.saw.0 ∙ p.ill.0))
  survey_wide_determined (Err refusal) (Err refusal') p q = ap Err (p.ill.1 ∙ sym q.ill.1)
