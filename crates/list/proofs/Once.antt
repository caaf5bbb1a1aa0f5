-- Of a kind without realm and id a list that passes has one record at most. Assumes nothing.
use mathlib.Core.Path.{◌≡◌, refl, sym, ◌∙◌, ap}
use mathlib.Core.Bool.{Bool, true, false, cond, not, ◌||◌, ◌&&◌, and-false}
use mathlib.Core.List.{List, [], ◌∷◌}
use Prim.Native.Nat.{ℕ, ◌≤◌}
use native.Mathlib.Omega.{arith}
use borrow.Author.Tests.{ltb-true, eqb-true}
use lib.Dec.{eqb, ltb}
use lib.ListN.{length, get_or}
use Rattle.words.specs.Test.{those}
use Rattle.words.specs.Said.{done}
use Rattle.words.specs.Realm.{zero_realm, realm_at, less_realm}
use Rattle.words.specs.declared.realm.Realm.{Realm}
use Rattle.words.proofs.Order.{tied}
use Rattle.records.specs.Kind.{body_of}
use Rattle.records.specs.Reading.{record_of}
use Rattle.records.specs.Standing.{rises}
use Rattle.records.specs.declared.records.Record.{Record}
use Rattle.records.proofs.Tails.{Is, unplaced}
use Rattle.list.specs.Fault.{no_record}
use Rattle.list.specs.Checking.{Placed, records, check_says}
use Rattle.list.proofs.Passed.{Chain, all_follow}

-- kinds do not fall
pub kinds_rise : (e r : Record) → rises e r ≡ true → e.kind ≤ r.kind
unfolding rises
kinds_rise e r = go (ltb e.kind r.kind) (eqb e.kind r.kind) refl refl
  where
    go : (a b : Bool) → ltb e.kind r.kind ≡ a → eqb e.kind r.kind ≡ b
        → (a || (b && (not (eqb r.kind 1) && less_realm e.realm r.realm (ltb e.id r.id)))) ≡ true → e.kind ≤ r.kind
    go true b p s h = omega (arith, ltb-true e.kind r.kind p)
    go false true p s h = omega (arith, eqb-true e.kind r.kind s)
    go false false p s h = let z : ◌≡◌ {A = ℕ} 0 1 = cc in absurd (omega arith)

module _ (k : ℕ) (nowhere : (body_of k).realm ≡ 0) (nameless : (body_of k).id ≡ 0) where
  abbrev is_of_kind : Placed → Bool
  is_of_kind p = eqb p.it.kind k

  -- a record of this kind names no realm and no id
  unnamed : (t : List ℕ) (r : Record) → Is t r → r.kind ≡ k → (r.realm ≡ zero_realm) × (r.id ≡ 0)
  unfolding record_of
  unnamed t r i q =
      let s : get_or t 0 0 ≡ k = ap (λ (x : Record). x.kind) i.same ∙ q in
      (unplaced t r i (rw (q, nowhere) refl), sym (ap (λ (x : Record). x.id) i.same) ∙ rw (s, nameless) refl)

  twice : (t u : List ℕ) (e r : Record) → Is t e → Is u r → e.kind ≡ k → r.kind ≡ k → rises e r ≡ true → ⊥
  unfolding rises less_realm zero_realm
  twice t u e r i j ke kr q =
      let a = unnamed t e i ke in
      let b = unnamed u r j kr in
      let f : rises e r ≡ false = rw (ke, kr, a.0, a.1, b.0, b.1, tied k k _ refl) (and-false (not (eqb k 1))) in
      let z : ◌≡◌ {A = ℕ} 0 1 = cc in
      omega arith

  none_after : (home : Realm) (t : List ℕ) (e : Record) (ps : List Placed) → Is t e → k ≤ e.kind → Chain home e ps → those is_of_kind ps ≡ []
  unfolding those Chain
  none_after home t e [] i h c = refl
  none_after home t e (p ∷ ps) i h c =
      let f = c.0 in
      let up = kinds_rise e p.it f.order in
      go (is_of_kind p) refl (none_after home f.tail p.it ps f.read (omega arith) c.1)
    where
      go : (b : Bool) → is_of_kind p ≡ b → those is_of_kind ps ≡ [] → cond b (p ∷ those is_of_kind ps) (those is_of_kind ps) ≡ []
      go true q rest =
          let kr = eqb-true p.it.kind k q in
          let ke : e.kind ≡ k = omega (arith, kinds_rise e p.it c.0.order) in
          absurd (twice t c.0.tail e p.it i c.0.read ke kr c.0.order)
      go false q rest = rest

  one_at_most : (home : Realm) (e : Record) (ps : List Placed) → Chain home e ps → length (those is_of_kind ps) ≤ 1
  unfolding those Chain
  one_at_most home e [] c = omega arith
  one_at_most home e (p ∷ ps) c = go (is_of_kind p) refl (one_at_most home p.it ps c.1)
    where
      go : (b : Bool) → is_of_kind p ≡ b → length (those is_of_kind ps) ≤ 1 → length (cond b (p ∷ those is_of_kind ps) (those is_of_kind ps)) ≤ 1
      go true q rest =
          let kr = eqb-true p.it.kind k q in
          rw (none_after home c.0.tail p.it ps c.0.read (omega arith) c.1) (omega arith)
      go false q rest = rest

  pub once : (list : List ℕ) → check_says list ≡ done [] → length (those (λ (p : Placed). eqb p.it.kind k) (records list)) ≤ 1
  once list q = one_at_most (realm_at 1 list) no_record (records list) (all_follow list q)
