-- Two outcomes that meet a statement are equal. Assumes nothing.
use mathlib.Core.Path.{◌≡◌, sym, ◌∙◌, ap}
use mathlib.Core.Bool.{Bool}
use mathlib.Core.List.{List}
use Prim.Native.Nat.{ℕ}
use Rattle.std.specs.Prelude.{Option, nat_eq, ◌&&◌}
use Rattle.words.specs.Number.{TellsWithin, StandsForNone, ReadsNumber}
use Rattle.words.specs.Realm.{ReadsRealm, TellsRealms, TellsUnknown, same_realm}
use Rattle.words.specs.Refusal.{Places, TellsNumber, TellsValue}
use Rattle.words.specs.declared.realm.Realm.{Realm}
use Rattle.words.specs.declared.refusal.Fault.{Fault}
use Rattle.words.specs.declared.refusal.Refusal.{Refusal}

-- where an answer can be read back from what it says, two answers that say the same are equal
pub same_answer : {R S : Type 0} (saying : R → S) (back : S → R) → ((r : R) → back (saying r) ≡ r)
    → {said : S} (r r' : R) → saying r ≡ said → saying r' ≡ said → r ≡ r'
same_answer saying back inverse r r' p q = sym (inverse r) ∙ ap back (p ∙ sym q) ∙ inverse r'

pub holds_determined : (width : ℕ) (bytes : List ℕ) (at : ℕ) (r r' : Bool) → TellsWithin width bytes at r → TellsWithin width bytes at r' → r ≡ r'
holds_determined width bytes at r r' p q = p.answer ∙ sym q.answer

pub zero_determined : (r r' : ℕ) → StandsForNone r → StandsForNone r' → r ≡ r'
zero_determined r r' p q = p.answer ∙ sym q.answer

-- of every width
pub number_determined : (width : ℕ) (bytes : List ℕ) (at r r' : ℕ) → ReadsNumber width bytes at r → ReadsNumber width bytes at r' → r ≡ r'
number_determined width bytes at r r' p q = p.answer ∙ sym q.answer

pub realm_at_determined : (bytes : List ℕ) (at : ℕ) (r r' : Realm) → ReadsRealm bytes at r → ReadsRealm bytes at r' → r ≡ r'
realm_at_determined bytes at r r' p q = p.answer ∙ sym q.answer

-- what the derived `==` of realms answers
pub equal_tells : (a b : Realm) (r : Bool) → r ≡ (nat_eq a.hi b.hi && nat_eq a.lo b.lo) → TellsRealms a b r
unfolding same_realm
equal_tells a b r e = record { answer = e }

pub same_realm_determined : (a b : Realm) (r r' : Bool) → TellsRealms a b r → TellsRealms a b r' → r ≡ r'
same_realm_determined a b r r' p q = p.answer ∙ sym q.answer

pub is_unknown_determined : (realm : Realm) (r r' : Bool) → TellsUnknown realm r → TellsUnknown realm r' → r ≡ r'
is_unknown_determined realm r r' p q = p.answer ∙ sym q.answer

-- a fault at a place
pub fault_at_determined : (fault : Fault) (place : ℕ) (r r' : Refusal) → Places fault place r → Places fault place r' → r ≡ r'
fault_at_determined fault place r r' p q = p.answer ∙ sym q.answer

-- a refusal's number, and what goes with it
pub refusal_number_determined : (refusal : Refusal) (r r' : ℕ) → TellsNumber refusal r → TellsNumber refusal r' → r ≡ r'
refusal_number_determined refusal r r' p q = p.answer ∙ sym q.answer

pub refusal_value_determined : (refusal : Refusal) (r r' : Option ℕ) → TellsValue refusal r → TellsValue refusal r' → r ≡ r'
refusal_value_determined refusal r r' p q = p.answer ∙ sym q.answer
