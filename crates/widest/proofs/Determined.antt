-- Two outcomes that meet a statement are equal. Assumes nothing.
use mathlib.Core.Path.{◌≡◌, sym, ◌∙◌, ap}
use mathlib.Core.Bool.{Bool}
use Rattle.claims.specs.declared.claim.Claim.{Claim}
use Rattle.widest.specs.Widest.{Ranges, TellsRival, Leaves}
use Rattle.widest.specs.declared.range.Range.{Range}

pub with_range_determined : (claim : Claim) (range : Range) (r r' : Claim) → Ranges claim range r → Ranges claim range r' → r ≡ r'
with_range_determined claim range r r' p q = p.answer ∙ sym q.answer

pub is_rival_determined : (held claim : Claim) (r r' : Bool) → TellsRival held claim r → TellsRival held claim r' → r ≡ r'
is_rival_determined held claim r r' p q = p.answer ∙ sym q.answer

pub beside_determined : (asked : Claim) (range : Range) (held : Claim) (r r' : Range) → Leaves asked range held r → Leaves asked range held r' → r ≡ r'
beside_determined asked range held r r' p q = ap (λ (c : Claim). record { first = c.first; last = c.last }) (p.answer ∙ sym q.answer)
