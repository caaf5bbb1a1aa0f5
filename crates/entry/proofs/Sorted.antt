-- Records in their order, and an entry's record among them. Assumes nothing.
use Rattle.std.specs.Prelude.{if◌then◌else◌}
use mathlib.Core.Path.{◌≡◌, refl, sym, ◌∙◌}
use mathlib.Core.List.{List, [], ◌∷◌, map}
use mathlib.Core.Bool.{Bool, true, false, cond}
use Prim.Native.Nat.{ℕ, ◌<◌}
use borrow.Author.Tests.{eqb-true, eq-eqb}
use lib.Dec.{eqb}
use Rattle.words.specs.Test.{those}
use Rattle.words.specs.Said.{done}
use Rattle.words.specs.Realm.{realm_at, same_realm}
use Rattle.words.specs.declared.realm.Realm.{Realm}
use Rattle.words.proofs.Tests.{and_left, and_right, differ, Each, each_so, those_all, those_none}
use Rattle.records.specs.Standing.{rises}
use Rattle.list.specs.Fault.{no_record}
use Rattle.list.specs.Checking.{Placed, records, check_says}
use Rattle.records.specs.declared.records.Record.{Record}
use Rattle.records.proofs.Ordered.{rises_trans, Alike, alike_before, alike_not, neither}
use Rattle.list.proofs.Passed.{Sound, Chain, all_follow}
use Rattle.entry.specs.NewList.{records_in, same_entry}

-- each of some records is sound and follows the one before it
unfoldable pub InOrder : Realm → Record → List Record → Type 0
InOrder home e [] = Unit {0}
InOrder home e (r ∷ rs) = (Sound home r × (rises e r ≡ true)) × InOrder home r rs

from_chain : (home : Realm) (e : Record) (ps : List Placed) → Chain home e ps → InOrder home e (map (λ (p : Placed). p.it) ps)
unfolding Chain InOrder
from_chain home e [] c = tt
from_chain home e (p ∷ ps) c = ((c.0.sound, c.0.order), from_chain home p.it ps c.1)

pub in_order_all : (list : List ℕ) → check_says list ≡ done [] → InOrder (realm_at 1 list) no_record (records_in list)
unfolding records_in
in_order_all list q = from_chain (realm_at 1 list) no_record (records list) (all_follow list q)

-- the records after another all come after it
pub above_all : (home : Realm) (e : Record) (rs : List Record) → InOrder home e rs → Each (λ q. rises e q ≡ true) rs
unfolding InOrder Each
above_all home e [] o = tt
above_all home e (r ∷ rs) o = (o.0.1, each_so (λ q p. rises_trans e r q o.0.1 p) rs (above_all home r rs o.1))

-- the same kind, realm and id, as a test
pub alike_same : (a b : Record) → Alike a b → same_entry a b ≡ true
unfolding same_entry same_realm
alike_same a b s =
    rw (s.kind, s.realm, s.id, eq-eqb b.kind b.kind refl, eq-eqb b.realm.hi b.realm.hi refl, eq-eqb b.realm.lo b.realm.lo refl, eq-eqb b.id b.id refl)

pub same_alike : (a b : Record) → same_entry a b ≡ true → Alike a b
unfolding same_entry same_realm
same_alike a b q =
    let r = and_right (eqb a.kind b.kind) _ q in
    let s = and_left (same_realm a.realm b.realm) (eqb a.id b.id) r in
    let hi = eqb-true a.realm.hi b.realm.hi (and_left (eqb a.realm.hi b.realm.hi) (eqb a.realm.lo b.realm.lo) s) in
    let lo = eqb-true a.realm.lo b.realm.lo (and_right (eqb a.realm.hi b.realm.hi) (eqb a.realm.lo b.realm.lo) s) in
    record {
      kind = eqb-true a.kind b.kind (and_left (eqb a.kind b.kind) _ q);
      realm = λ j. record { hi = hi j; lo = lo j };
      id = eqb-true a.id b.id (and_right (same_realm a.realm b.realm) (eqb a.id b.id) r);
    }

pub alike_back : (a b : Record) → Alike a b → Alike b a
alike_back a b s = record { kind = sym s.kind; realm = sym s.realm; id = sym s.id }

pub not_same : (a b : Record) → (Alike a b → ⊥) → same_entry a b ≡ false
not_same a b apart = go (same_entry a b) refl
  where
    go : (t : Bool) → same_entry a b ≡ t → t ≡ false
    go true q = absurd (apart (same_alike a b q))
    go false q = refl

-- one that comes before, or after, is not the same
pub before_differs : (r q : Record) → rises q r ≡ true → same_entry r q ≡ false
before_differs r q p = not_same r q (λ s. differ (sym p ∙ alike_not q r (alike_back r q s)))

pub after_differs : (r q : Record) → rises r q ≡ true → same_entry r q ≡ false
after_differs r q p = not_same r q (λ s. differ (sym p ∙ alike_not r q s))

-- an entry's record, and the first of some records that does not come before it
module _ (r : Record) (entry : 1 < r.kind) (q : Record) (stays : rises q r ≡ false) where
  is_above : (x : Record) → rises q x ≡ true → rises r x ≡ true
  is_above x p = go (rises r q) refl
    where
      go : (t : Bool) → rises r q ≡ t → rises r x ≡ true
      go true h = rises_trans r q x h p
      go false h = sym (alike_before q r x (neither q r entry stays h)) ∙ p

  not_below : (x : Record) → rises q x ≡ true → rises x r ≡ false
  not_below x p = go (rises x r) refl
    where
      go : (t : Bool) → rises x r ≡ t → t ≡ false
      go true h = sym (rises_trans q x r p h) ∙ stays
      go false h = refl

  module _ (home : Realm) (qs : List Record) (o : InOrder home q qs) where
    pub none_before : those (λ x. rises x r) (q ∷ qs) ≡ []
    unfolding those
    none_before = rw stays (those_none (λ x. rises x r) qs (each_so not_below qs (above_all home q qs o)))

    pub rest_after : those (λ x. rises r x) (q ∷ qs) ≡ (if rises r q then q ∷ qs else qs)
    unfolding those
    rest_after = rw (those_all (λ x. rises r x) qs (each_so is_above qs (above_all home q qs o))) (go (rises r q))
      where
        go : (t : Bool) → cond t (q ∷ qs) qs ≡ (if t then q ∷ qs else qs)
        go true = refl
        go false = refl

    none_same : Each (λ x. same_entry r x ≡ false) qs
    none_same = each_so (λ x p. after_differs r x (is_above x p)) qs (above_all home q qs o)

    pub the_same : those (same_entry r) (q ∷ qs) ≡ (if rises r q then [] else q ∷ [])
    unfolding those
    the_same = rw (those_none (same_entry r) qs none_same) (go (rises r q) refl)
      where
        go : (t : Bool) → rises r q ≡ t → cond (same_entry r q) (q ∷ []) [] ≡ (if t then [] else q ∷ [])
        go true h = rw (after_differs r q h) refl
        go false h = rw (alike_same r q (alike_back q r (neither q r entry stays h))) refl
