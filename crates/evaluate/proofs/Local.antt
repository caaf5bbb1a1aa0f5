-- Callers and records of the zero realm. Assumes nothing.
use mathlib.Core.Path.{◌≡◌, refl, sym, ◌∙◌, ap}
use mathlib.Core.List.{List}
use mathlib.Core.Bool.{Bool, true, false, not, ◌||◌, ◌&&◌, and-false, or-true, or-false}
use mathlib.Core.Logic.{inl}
use Prim.Native.Nat.{ℕ}
use borrow.Author.Tests.{eq-eqb, ne_eqb}
use lib.Dec.{eqb}
use Rattle.words.specs.Realm.{zero_realm, unknown_realm, realm_at, same_realm}
use Rattle.words.specs.declared.realm.Realm.{Realm}
use Rattle.words.proofs.Tests.{differ, Each}
use Rattle.words.proofs.Order.{realms_swapped}
use Rattle.records.specs.Kind.{body, bodies, body_of, is_foreign}
use Rattle.records.specs.Standing.{is_forbidden}
use Rattle.records.specs.declared.records.Record.{Record}
use Rattle.evaluate.specs.Asking.{of_default_realm, in_group}
use Rattle.evaluate.specs.Steps.{masked, unmasked, here, abroad, steps}
use Rattle.evaluate.specs.Evaluation.{evaluation}
use Rattle.evaluate.specs.declared.asking.Caller.{Caller}
use Rattle.evaluate.specs.declared.asking.File.{File}
use Rattle.evaluate.proofs.Counting.{Untaken}
use Rattle.evaluate.proofs.Alike.{OneRealm, alike}

-- of which realm a caller is, by what was tested
module _ (caller : Caller) (default : Realm) {zero : Bool} (told : zero ≡ same_realm caller.realm zero_realm) where
  pub zero_counts : zero ≡ true → true ≡ of_default_realm caller default
  unfolding of_default_realm
  zero_counts q = rw (sym told ∙ q, or-true) refl

  pub default_counts : zero ≡ false → {same : Bool} → same ≡ same_realm caller.realm default → same ≡ of_default_realm caller default
  unfolding of_default_realm
  default_counts q same = rw (sym told ∙ q, or-false) same

abbrev pub of : Realm → ℕ → ℕ → Caller
of realm user group = record { realm = realm; user = user; group = group }

pub same_realm_lem : (realm : Realm) → same_realm realm realm ≡ true
unfolding same_realm
same_realm_lem realm = rw (eq-eqb realm.hi realm.hi refl, eq-eqb realm.lo realm.lo refl) refl

module _ (user group : ℕ) where
  both_of_default : (default : Realm) → OneRealm default (of zero_realm user group) (of default user group)
  unfolding OneRealm of_default_realm
  both_of_default default = inl (rw (same_realm_lem zero_realm, or-true) refl, rw (same_realm_lem default) refl)

  pub same_groups : (realm realm' : Realm) (groups : List ℕ) (id : ℕ) → in_group (of realm user group) groups id ≡ in_group (of realm' user group) groups id
  unfolding in_group
  same_groups realm realm' groups id = refl

-- whatever the list, the groups and the file, a caller of the zero realm gets what that user gets in the default realm
pub zero_as_default : (list groups : List ℕ) (user group : ℕ) (file : File)
    → evaluation list groups (of zero_realm user group) file ≡ evaluation list groups (of (realm_at 1 list) user group) file
zero_as_default list groups user group file =
    alike (of zero_realm user group) (of (realm_at 1 list) user group) groups groups refl (same_groups user group zero_realm (realm_at 1 list) groups) file list
    (both_of_default user group (realm_at 1 list)) refl

-- a foreign record of the zero realm
module _ (default : Realm) (r : Record) (foreign : is_foreign r.kind ≡ true) (zero : r.realm ≡ zero_realm) where
  -- it is forbidden where that is the default realm, and nowhere else
  pub zero_legal : is_forbidden default r ≡ same_realm zero_realm default
  unfolding is_forbidden same_realm zero_realm unknown_realm
  zero_legal = rw (foreign, zero) refl

  other_kind : (kind : ℕ) → is_foreign kind ≡ false → eqb r.kind kind ≡ false
  other_kind kind q = ne_eqb r.kind kind (λ (e : r.kind ≡ kind). differ (sym foreign ∙ ap is_foreign e ∙ q))

  module _ (groups : List ℕ) (caller : Caller) (file : File) where
    abbrev home : Bool
    home = of_default_realm caller default

    not_here : (kind : ℕ) → is_foreign kind ≡ false → here home groups caller file kind r ≡ false
    unfolding here
    not_here kind q = rw (other_kind kind q, and-false) refl

    not_abroad : (kind : ℕ) → abroad home groups caller file kind r ≡ false
    unfolding abroad of_default_realm
    not_abroad kind =
        rw (zero, realms_swapped zero_realm caller.realm)
        (go (same_realm caller.realm default) (eqb r.kind kind) (same_realm caller.realm zero_realm))
      where
        go : (a b c : Bool) → (not (a || c) && (b && c)) ≡ false
        go true b c = refl
        go false b true = refl
        go false b false = and-false b

    -- it serves no step, whoever asks
    pub zero_serves_nobody : Untaken (steps home groups caller file) r
    unfolding Each steps masked unmasked is_foreign body_of bodies body
    zero_serves_nobody = (
      rw (not_here 2 refl) refl,
      (
        rw (not_here 7 refl, not_abroad 9) refl,
        (
          rw (not_here 3 refl, not_here 8 refl, not_abroad 10) refl,
          (not_here 4 refl, (not_abroad 11, (other_kind 6 refl, tt))),
        ),
      ),
    )
