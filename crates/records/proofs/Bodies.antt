-- The tests by which the code knows kinds agree with the table of kinds. Assumes nothing.
use mathlib.Core.Path.{◌≡◌, refl, sym, ◌∙◌, ap}
use mathlib.Core.Bool.{Bool, true, false, cond, ◌||◌, ◌&&◌, not, and-false}
use Prim.Native.Nat.{ℕ, zero, suc, ◌≤◌, ◌<◌}
use native.Mathlib.Omega.{arith}
use borrow.Author.Tests.{eqb-true, eqb-false, ltb-true, ltb-false, lt-leb, le-ltb}
use lib.Dec.{eqb, leb, ltb}
use lib.ListN.{get_or-eq_default}
use Rattle.words.specs.Realm.{zero_realm, unknown_realm, same_realm}
use Rattle.words.specs.declared.realm.Realm.{Realm}
use Rattle.words.proofs.Tests.{and_left, and_right}
use Rattle.records.specs.Kind.{Body, body, bodies, body_of, size, is_foreign}
use Rattle.records.specs.Standing.{is_forbidden}
use Rattle.records.specs.declared.records.Record.{Record}

-- a test passes at each number below n
unfoldable pub every_below : ℕ → (ℕ → Bool) → Bool
every_below zero test = true
every_below (suc n) test = every_below n test && test n

pub below : (n : ℕ) (test : ℕ → Bool) → every_below n test ≡ true → (k : ℕ) → k < n → test k ≡ true
unfolding every_below
below zero test t k h = absurd (omega arith)
below (suc n) test t k h = go (λ p. below n test p k) (eqb k n) refl
  where
    go : (every_below n test ≡ true → k < n → test k ≡ true) → (b : Bool) → eqb k n ≡ b → test k ≡ true
    go earlier true s = ap test (eqb-true k n s) ∙ and_right (every_below n test) (test n) t
    go earlier false s = earlier (and_left (every_below n test) (test n) t) (omega (arith, eqb-false k n s))

unfoldable pub body_is : Body → ℕ → Bool
body_is b k = eqb (body_of k).realm b.realm && (eqb (body_of k).id b.id && eqb (body_of k).rights b.rights)

is_body : (b : Body) (k : ℕ) → body_is b k ≡ true → body_of k ≡ b
unfolding body_is
is_body b k t =
    let r = eqb-true (body_of k).realm b.realm (and_left (eqb (body_of k).realm b.realm) _ t) in
    let u = and_right (eqb (body_of k).realm b.realm) _ t in
    let i = eqb-true (body_of k).id b.id (and_left (eqb (body_of k).id b.id) _ u) in
    let g = eqb-true (body_of k).rights b.rights (and_right (eqb (body_of k).id b.id) _ u) in
    λ j. record { realm = r j; id = i j; rights = g j }

-- kinds from lo to hi that have one body, by a test over the table
unfoldable pub among : ℕ → Body → ℕ → Bool
among lo b k = ltb k lo || body_is b k

pub in_range : (lo hi : ℕ) (b : Body) → every_below (suc hi) (among lo b) ≡ true → (k : ℕ) → lo ≤ k → k ≤ hi → body_of k ≡ b
unfolding among
in_range lo hi b t k l h = is_body b k (rw (le-ltb k lo l) at (below (suc hi) (among lo b) t k (omega arith)))

pub beyond : (k : ℕ) → 11 < k → body_of k ≡ body 0 0 0
unfolding body_of bodies
beyond k h = get_or-eq_default bodies (body 0 0 0) h

-- what holds of every body of the table, and of none, holds of every kind's
everywhere : (test : Body → Bool) → every_below 12 (λ k. test (body_of k)) ≡ true → test (body 0 0 0) ≡ true
    → (k : ℕ) → test (body_of k) ≡ true
everywhere test t none k = go (ltb k 12) refl
  where
    go : (b : Bool) → ltb k 12 ≡ b → test (body_of k) ≡ true
    go true h = below 12 (λ k. test (body_of k)) t k (ltb-true k 12 h)
    go false h = rw (beyond k (ltb-false k 12 h)) none

agree : (a b : Bool) → cond a b (not b) ≡ true → a ≡ b
agree true b t = sym t
agree false true t = t
agree false false t = refl

foreign_told : ℕ → Bool
foreign_told k = cond (leb 9 k && leb k 11) (is_foreign k) (not (is_foreign k))

pub foreign_told_lem : (k : ℕ) → (leb 9 k && leb k 11) ≡ is_foreign k
unfolding foreign_told every_below is_foreign body_of bodies body
foreign_told_lem k = go (ltb k 12) refl
  where
    go : (b : Bool) → ltb k 12 ≡ b → (leb 9 k && leb k 11) ≡ is_foreign k
    go true h = agree (leb 9 k && leb k 11) (is_foreign k) (below 12 foreign_told refl k (ltb-true k 12 h))
    go false h = let l : 11 < k = ltb-false k 12 h in simp (lt-leb k 11 l, and-false, beyond k l)

pub some_size : (k : ℕ) → 0 < size k
unfolding size
some_size k = omega arith

-- a part of a body is missing or has its one length
unfoldable pub either : ℕ → ℕ → Bool
either n x = eqb x 0 || eqb x n

pub full : (n x : ℕ) → either n x ≡ true → eqb x 0 ≡ false → x ≡ n
unfolding either
full n x t q = eqb-true x n (rw q at t)

pub realm_length : (k : ℕ) → either 16 (body_of k).realm ≡ true
unfolding either every_below body_of bodies body
realm_length = everywhere (λ b. either 16 b.realm) refl refl

pub id_length : (k : ℕ) → either 4 (body_of k).id ≡ true
unfolding either every_below body_of bodies body
id_length = everywhere (λ b. either 4 b.id) refl refl

pub rights_length : (k : ℕ) → either 1 (body_of k).rights ≡ true
unfolding either every_below body_of bodies body
rights_length = everywhere (λ b. either 1 b.rights) refl refl

-- the objects, the mask, users and groups have no realm
realmless : ℕ → Bool
realmless k = ltb k 2 || eqb (body_of k).realm 0

pub no_realm : (k : ℕ) → 1 < k → k < 9 → eqb (body_of k).realm 0 ≡ true
unfolding realmless every_below body_of bodies body
no_realm k l h = rw (le-ltb k 2 l) at (below 9 realmless refl k h)

pub unbarred : (home : Realm) (r : Record) → (eqb (body_of r.kind).realm 0 ≡ true → r.realm ≡ zero_realm)
    → (ltb 1 r.kind && ltb r.kind 9) ≡ true → false ≡ is_forbidden home r
unfolding is_forbidden same_realm zero_realm unknown_realm
unbarred home r none t =
    let l = ltb-true 1 r.kind (and_left (ltb 1 r.kind) (ltb r.kind 9) t) in
    let h = ltb-true r.kind 9 (and_right (ltb 1 r.kind) (ltb r.kind 9) t) in
    rw (none (no_realm r.kind l h), ← foreign_told_lem r.kind, lt-leb 9 r.kind h) refl
