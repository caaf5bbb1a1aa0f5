-- The order of records: it is transitive, no record comes before itself, and two that neither comes before the other agree in kind,
-- realm and id. Assumes nothing.
use mathlib.Core.Path.{◌≡◌, refl, sym, ◌∙◌}
use mathlib.Core.Bool.{Bool, true, false, not, ◌&&◌}
use Prim.Native.Nat.{ℕ, ◌<◌}
use native.Mathlib.Omega.{arith}
use borrow.Author.Tests.{ltb-true, ltb-false, lt-ltb, le-ltb, ne_eqb}
use lib.Dec.{eqb, ltb}
use Rattle.words.specs.Realm.{less_realm}
use Rattle.words.proofs.Tests.{and_left, and_right}
use Rattle.words.proofs.Order.{less_trans, less_asym, less_total}
use Rattle.records.specs.Standing.{rises}
use Rattle.records.specs.declared.records.Record.{Record}

-- of two records of one kind
lower : Record → Record → Bool
lower a b = less_realm a.realm b.realm (ltb a.id b.id)

ids_trans : (a b c : ℕ) → ltb a b ≡ true → ltb b c ≡ true → ltb a c ≡ true
ids_trans a b c p q = lt-ltb a c (omega (arith, ltb-true a b p, ltb-true b c q))

ids_asym : (a b : ℕ) → ltb a b ≡ true → ltb b a ≡ false
ids_asym a b p = le-ltb b a (omega (arith, ltb-true a b p))

lower_trans : (a b c : Record) → lower a b ≡ true → lower b c ≡ true → lower a c ≡ true
unfolding lower less_realm
lower_trans a b c p q =
    less_trans a.realm.hi b.realm.hi c.realm.hi _ _ _ p q
    (λ p q. less_trans a.realm.lo b.realm.lo c.realm.lo _ _ _ p q (ids_trans a.id b.id c.id))

lower_asym : (a b : Record) → lower a b ≡ true → lower b a ≡ false
unfolding lower less_realm
lower_asym a b p =
    less_asym a.realm.hi b.realm.hi _ _ p (λ p. less_asym a.realm.lo b.realm.lo _ _ p (ids_asym a.id b.id))

both : (a b : Bool) → a ≡ true → b ≡ true → (a && b) ≡ true
both a b p q = rw (p, q) refl

second_false : (a b : Bool) → b ≡ false → (a && b) ≡ false
second_false true b q = q
second_false false b q = refl

pub rises_trans : (a b c : Record) → rises a b ≡ true → rises b c ≡ true → rises a c ≡ true
unfolding rises lower
rises_trans a b c p q =
    less_trans a.kind b.kind c.kind _ _ _ p q
    (λ p q. both (not (eqb c.kind 1)) (lower a c) (and_left (not (eqb c.kind 1)) (lower b c) q)
    (lower_trans a b c (and_right (not (eqb b.kind 1)) (lower a b) p) (and_right (not (eqb c.kind 1)) (lower b c) q)))

pub rises_asym : (a b : Record) → rises a b ≡ true → rises b a ≡ false
unfolding rises lower
rises_asym a b p =
    less_asym a.kind b.kind _ _ p
    (λ p. second_false (not (eqb a.kind 1)) (lower b a) (lower_asym a b (and_right (not (eqb b.kind 1)) (lower a b) p)))

-- the same kind, realm and id
pub record Alike (a b : Record) : Type 0 where
  pub kind : a.kind ≡ b.kind
  pub realm : a.realm ≡ b.realm
  pub id : a.id ≡ b.id

-- order goes by kind, realm and id alone
pub alike_before : (a b c : Record) → Alike a b → rises a c ≡ rises b c
unfolding rises
alike_before a b c s = rw (s.kind, s.realm, s.id)

alike_after : (a b c : Record) → Alike a b → rises c a ≡ rises c b
unfolding rises
alike_after a b c s = rw (s.kind, s.realm, s.id)

pub alike_not : (a b : Record) → Alike a b → rises a b ≡ false
alike_not a b s = go (rises a b) refl
  where
    go : (t : Bool) → rises a b ≡ t → t ≡ false
    go true q = sym q ∙ alike_before a b b s ∙ sym (alike_after a b b s) ∙ rises_asym a b q
    go false q = refl

pub neither : (a b : Record) → 1 < b.kind → rises a b ≡ false → rises b a ≡ false → Alike a b
unfolding rises lower less_realm
neither a b h p q =
    let k = less_total a.kind b.kind _ _ p q in
    let n = ne_eqb b.kind 1 (λ e. omega arith) in
    let m = ne_eqb a.kind 1 (λ e. omega (arith, k.0)) in
    let l : lower a b ≡ false = rw n at k.1 in
    let r : lower b a ≡ false = rw m at k.2 in
    let u = less_total a.realm.hi b.realm.hi _ _ l r in
    let v = less_total a.realm.lo b.realm.lo _ _ u.1 u.2 in
    record {
      kind = k.0;
      realm = λ j. record { hi = u.0 j; lo = v.0 j };
      id = omega (arith, ltb-false a.id b.id v.1, ltb-false b.id a.id v.2);
    }
