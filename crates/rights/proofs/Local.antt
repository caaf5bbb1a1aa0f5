-- Callers of the zero realm: by a list they are of its default realm, by a mode their realm is like any other. Assumes nothing.
use mathlib.Core.Path.{◌≡◌, refl, sym, ◌∙◌, subst}
use mathlib.Core.List.{List}
use mathlib.Core.Bool.{false}
use Prim.Native.Nat.{ℕ}
use denote.Ref.{Bor}
use Rattle.words.specs.Realm.{zero_realm, unknown_realm, realm_at, same_realm}
use Rattle.words.specs.declared.realm.Realm.{Realm}
use Rattle.evaluate.specs.Evaluation.{Decided, unless_too_many, evaluation}
use Rattle.evaluate.specs.declared.asking.File.{File}
use Rattle.evaluate.proofs.Local.{of, same_realm_lem, same_groups, zero_as_default}
use Rattle.rights.specs.Deciding.{by_guard, decided, Decides}
use Rattle.rights.specs.declared.decision.Decision.{Decision}
use Rattle.rights.specs.declared.guard.Guard.TheVariants.{List as ByList, Mode}
use Rattle.rights.proofs.Alike.{mode_alike}
use Rattle.rights.proofs.Determined.{SameDecision, rights_determined}

module _ (groups : List ℕ) (user group : ℕ) (file : File) where
  -- whatever the list, a caller of the zero realm gets what that user gets in the default realm: rights or refusal, place and record
  pub by_list : (list : List ℕ) → decided list groups (of zero_realm user group) file ByList ≡ decided list groups (of (realm_at 1 list) user group) file ByList
  unfolding decided by_guard evaluation
  by_list list = zero_as_default list groups user group file

  -- the rights call answers both the same, with the same part
  pub same_decision : (list : Bor (List ℕ)) (r r' : Decision)
      → Decides (decided list.now groups (of zero_realm user group) file ByList) list r
      → Decides (decided list.now groups (of (realm_at 1 list.now) user group) file ByList) list r'
      → SameDecision r r'
  same_decision list r r' p q = rights_determined _ list r r' (subst (λ (d : Decided). Decides d list r) (by_list list.now) p) q

  -- by a mode: a realm and a local realm may be any others that are the same or not as they are, if both local realms are known or neither
  pub by_mode : (realm local realm' local' : Realm) → same_realm local unknown_realm ≡ same_realm local' unknown_realm
      → same_realm realm local ≡ same_realm realm' local' → (list : List ℕ) (mode : ℕ)
      → decided list groups (of realm user group) file (Mode local mode) ≡ decided list groups (of realm' user group) file (Mode local' mode)
  unfolding decided by_guard unless_too_many
  by_mode realm local realm' local' unknown one list mode =
      rw (mode_alike (of realm user group) (of realm' user group) groups groups refl (same_groups user group realm realm' groups) file local local' mode unknown one)

  -- so where the local realm is another, the zero realm gets what any other realm gets
  pub zero_elsewhere : (local realm : Realm) → same_realm zero_realm local ≡ false → same_realm realm local ≡ false → (list : List ℕ) (mode : ℕ)
      → decided list groups (of zero_realm user group) file (Mode local mode) ≡ decided list groups (of realm user group) file (Mode local mode)
  zero_elsewhere local realm zero other = by_mode zero_realm local realm local refl (zero ∙ sym other)

  -- and where it is the local realm, what any realm gets that is known and is the local one
  pub zero_at_home : (realm : Realm) → same_realm realm unknown_realm ≡ false → (list : List ℕ) (mode : ℕ)
      → decided list groups (of zero_realm user group) file (Mode zero_realm mode) ≡ decided list groups (of realm user group) file (Mode realm mode)
  unfolding same_realm zero_realm unknown_realm
  zero_at_home realm known = by_mode zero_realm zero_realm realm realm (sym known) (same_realm_lem zero_realm ∙ sym (same_realm_lem realm))
