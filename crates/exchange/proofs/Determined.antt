-- Two outcomes that meet a statement are equal. Assumes nothing.
use mathlib.Core.Path.{◌≡◌, sym, ◌∙◌}
use mathlib.Core.List.{List}
use Prim.Native.Nat.{ℕ}
use Rattle.rights.specs.declared.access.Access.{Access}
use Rattle.exchange.specs.Given.{Lends}
use Rattle.exchange.specs.Meaning.{Means}
use Rattle.exchange.specs.declared.given.Caller.{Caller}
use Rattle.exchange.specs.declared.given.File.{File}

pub means_determined : {A : Type 0} (meant r r' : A) → Means meant r → Means meant r' → r ≡ r'
means_determined meant r r' p q = p.answer ∙ sym q.answer

-- what is lent is told by its bytes and its numbers
pub lends_determined : (list groups : List ℕ) (caller : Caller) (file : File) (r r' : Access) → Lends list groups caller file r → Lends list groups caller file r'
    → (r.list.now ≡ r'.list.now) × (r.groups.now ≡ r'.groups.now) × (r.caller ≡ r'.caller) × (r.file ≡ r'.file) × (r.guard ≡ r'.guard)
lends_determined list groups caller file r r' p q =
    (p.list_lent ∙ sym q.list_lent, p.groups_lent ∙ sym q.groups_lent, p.caller_meant ∙ sym q.caller_meant, p.file_meant ∙ sym q.file_meant, p.guard_meant ∙ sym q.guard_meant)
