-- Two outcomes that meet a statement are equal. Assumes nothing.
use mathlib.Core.Path.{◌≡◌, sym, ◌∙◌}
use mathlib.Core.Bool.{Bool}
use mathlib.Core.List.{List}
use Prim.Native.Nat.{ℕ}
use Rattle.audit.specs.Audit.{Audits}

pub audit_determined : (bytes : List ℕ) (r r' : Bool) → Audits bytes r → Audits bytes r' → r ≡ r'
audit_determined bytes r r' p q = p.answer ∙ sym q.answer
