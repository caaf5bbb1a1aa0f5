-- A caller of the unknown realm falls to any_other. Assumes nothing.
use mathlib.Core.Path.{◌≡◌, refl}
use mathlib.Core.List.{List, [], ◌∷◌}
use mathlib.Core.Bool.{Bool, false, and-false}
use Prim.Native.Nat.{ℕ}
use lib.Dec.{eqb}
use lib.ListN.{take}
use Rattle.words.specs.Test.{any_of, those}
use Rattle.words.specs.Said.{done}
use Rattle.words.specs.Realm.{zero_realm, unknown_realm, realm_at, same_realm}
use Rattle.words.specs.declared.realm.Realm.{Realm}
use Rattle.words.proofs.Tests.{or_left, Each}
use Rattle.words.proofs.Order.{realms_swapped}
use Rattle.records.specs.Standing.{is_forbidden}
use Rattle.list.specs.Checking.{Placed, records, check_says}
use Rattle.records.specs.declared.records.Record.{Record}
use Rattle.list.proofs.Passed.{Sound, IsSound, all_sound, default_known}
use Rattle.evaluate.specs.Asking.{of_default_realm}
use Rattle.evaluate.specs.Steps.{Step, masked, unmasked, here, abroad, steps, serving, served_from}
use Rattle.evaluate.specs.Evaluation.{served_in}
use Rattle.evaluate.specs.declared.asking.Caller.{Caller}
use Rattle.evaluate.specs.declared.asking.File.{File}
use Rattle.evaluate.proofs.First.{applies, NoneApplies, skipped}

-- a step that takes no sound record does not apply
none_taken : (home : Realm) (test : Record → Bool) → ((r : Record) → Sound home r → test r ≡ false) → (rs : List Placed) → Each (IsSound home) rs
    → any_of (λ (p : Placed). test p.it) rs ≡ false
unfolding any_of Each
none_taken home test none [] s = refl
none_taken home test none (r ∷ rs) s = rw (none r.it s.0) (none_taken home test none rs s.1)

module _ (list groups : List ℕ) (user group : ℕ) (file : File) (passes : check_says list ≡ done []) where
  abbrev caller : Caller
  caller = record { realm = unknown_realm; user = user; group = group }

  stranger : of_default_realm caller (realm_at 1 list) ≡ false
  unfolding of_default_realm same_realm unknown_realm zero_realm
  stranger = rw (realms_swapped unknown_realm (realm_at 1 list), default_known list passes) refl

  not_named : (r : Record) → Sound (realm_at 1 list) r → same_realm r.realm unknown_realm ≡ false
  unfolding is_forbidden
  not_named r s = or_left _ _ s.realm

  unserved : (t : Step) → ((r : Record) → Sound (realm_at 1 list) r → t.takes r ≡ false) → applies t (records list) ≡ false
  unfolding applies
  unserved t none = none_taken (realm_at 1 list) t.takes none (records list) (all_sound list passes)

  -- no record of the list serves steps 1 to 5
  abbrev early : List Step
  early = take 5 (steps false groups caller file)

  unserved_early : NoneApplies early (records list)
  unfolding Each steps here abroad masked unmasked
  unserved_early = (
    unserved _ (λ r s. refl),
    (
      unserved _ (λ r s. simp (not_named r s, and-false)),
      (
        unserved _ (λ r s. simp (not_named r s, and-false)),
        (
          unserved _ (λ r s. refl),
          (unserved _ (λ r s. simp (not_named r s, and-false)), tt),
        ),
      ),
    ),
  )

  -- only any_other decides, or nothing
  pub falls_to_any_other : served_in list groups caller file
      ≡ serving 6 (masked (λ r. eqb r.kind 6)) (those (λ p. eqb p.it.kind 6) (records list)) (record { step = 7; is_masked = false; by = [] })
  unfolding served_in steps served_from masked
  falls_to_any_other = rw stranger (skipped (records list) 1 early (masked (λ r. eqb r.kind 6) ∷ []) unserved_early)
