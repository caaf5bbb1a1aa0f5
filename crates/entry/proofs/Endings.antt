-- What the end of a list asks of its records, with one record put among them or dropped. Assumes nothing.
use Rattle.std.specs.Prelude.{if◌then◌else◌, None, Some}
use mathlib.Core.Path.{◌≡◌, refl, sym, ◌∙◌, ap, subst}
use mathlib.Core.List.{List, [], ◌∷◌, ◌++◌}
use mathlib.Core.Bool.{Bool, true, false, cond, not, ◌||◌, ◌&&◌, and-true, and-false, or-true}
use Prim.Native.Nat.{ℕ, ◌+◌, ◌≤◌, ◌<◌}
use native.Mathlib.Omega.{arith}
use borrow.Author.Tests.{eqb-true, eqb-false, leb-true, leb-false, eq-eqb, ne_eqb, le-leb, lt-leb, lt-ltb, le-ltb}
use lib.Dec.{eqb, leb, ltb}
use lib.ListN.{length, length-append}
use Rattle.words.specs.Test.{any_of}
use Rattle.words.specs.declared.realm.Realm.{Realm}
use Rattle.words.specs.declared.refusal.Fault.TheVariants.{ObjectMissing, MaskMissing, ControlMissing}
use Rattle.words.proofs.Tests.{differ, Each, each_so, each_both, those_each, those_pass, any_none, none_any, any_append}
use Rattle.records.specs.Kind.{body, bodies, body_of, wants_mask}
use Rattle.records.specs.Standing.{rises, lacks_control}
use Rattle.list.specs.Fault.{Seen, end_fault}
use Rattle.records.specs.declared.records.Record.{Record}
use Rattle.list.proofs.Once.{kinds_rise}
use Rattle.records.proofs.Ordered.{Alike, alike_not}
use Rattle.entry.specs.Spelling.{spelled, spell}
use Rattle.entry.specs.NewList.{same_entry, put_in, drop_from}
use Rattle.entry.proofs.Spelled.{Fitting}
use Rattle.entry.proofs.Cuts.{spelled_size, sized_some}
use Rattle.entry.proofs.Sorted.{InOrder, same_alike, alike_back}
use Rattle.entry.proofs.Splits.{earlier, same, later, put_parts, split, dropped, spell_append}

-- some record is of a kind that passes a test
abbrev pub of_kind : (ℕ → Bool) → List Record → Bool
of_kind t = any_of (λ q. t q.kind)

-- what some records have
unfoldable pub seen_by : List Record → Seen
seen_by rs = record {
  user = of_kind (λ k. eqb k 2) rs;
  group = of_kind (λ k. eqb k 3) rs;
  other = of_kind (λ k. eqb k 4) rs;
  mask = of_kind (λ k. eqb k 5) rs;
  wanting = of_kind wants_mask rs;
  powerless = any_of lacks_control rs;
}

-- what they have where the end finds no fault
pub record Ended (seen : Seen) : Type 0 where
  pub user : seen.user ≡ true
  pub group : seen.group ≡ true
  pub other : seen.other ≡ true
  pub masked : (seen.wanting && not seen.mask) ≡ false
  pub powerful : seen.powerless ≡ false

pub ended : (seen : Seen) → end_fault seen ≡ None → Ended seen
unfolding end_fault
ended seen = go seen.user seen.group seen.other (seen.wanting && not seen.mask) seen.powerless refl refl refl refl refl
  where
    go : (u g o w p : Bool) → seen.user ≡ u → seen.group ≡ g → seen.other ≡ o → (seen.wanting && not seen.mask) ≡ w → seen.powerless ≡ p
        → (if not (u && (g && o)) then Some ObjectMissing else if w then Some MaskMissing else if p then Some ControlMissing else None) ≡ None → Ended seen
    go false g o w p a b c d e q = cc
    go true false o w p a b c d e q = cc
    go true true false w p a b c d e q = cc
    go true true true true p a b c d e q = cc
    go true true true false true a b c d e q = cc
    go true true true false false a b c d e q = record { user = a; group = b; other = c; masked = d; powerful = e }

-- a mask_obj is wanted after a put where the record put wants one
still_masked : (wanting mask five : Bool) → (wanting && not mask) ≡ false → (wanting && not (five || mask)) ≡ false
still_masked false mask five q = refl
still_masked true true five q = rw (or-true five) refl
still_masked true false five q = absurd (differ q)

mask_put : (k : ℕ) (wanting mask : Bool) → (wanting && not mask) ≡ false → ((wants_mask k || wanting) && not (eqb k 5 || mask)) ≡ (wants_mask k && not mask)
unfolding wants_mask
mask_put k wanting mask q = go (leb 6 k) refl
  where
    go : (b : Bool) → leb 6 k ≡ b → ((b || wanting) && not (eqb k 5 || mask)) ≡ (b && not mask)
    go true p = let n = ne_eqb k 5 (λ z. omega (arith, leb-true 6 k p)) in rw n refl
    go false p = still_masked wanting mask (eqb k 5) q

-- records of a kind without realm and id agree
only_kind : (r q : Record) → Fitting r → Fitting q → (body_of r.kind).realm ≡ 0 → (body_of r.kind).id ≡ 0 → r.kind ≡ q.kind → Alike r q
only_kind r q f g nowhere nameless k = record {
  kind = k;
  realm = f.no_realm (eq-eqb (body_of r.kind).realm 0 nowhere) ∙ sym (g.no_realm (eq-eqb (body_of q.kind).realm 0 (rw k at nowhere)));
  id = f.no_id (eq-eqb (body_of r.kind).id 0 nameless) ∙ sym (g.no_id (eq-eqb (body_of q.kind).id 0 (rw k at nameless)));
}

module _ (r : Record) (entry : 1 < r.kind) (home : Realm) (e : Record) (rs : List Record) (o : InOrder home e rs) where
  -- a kind of the old records, by the three parts
  of_parts : (t : ℕ → Bool) → of_kind t rs ≡ (of_kind t (earlier r rs) || (of_kind t (same r rs) || of_kind t (later r rs)))
  of_parts t =
      ap (of_kind t) (split r entry home e rs o)
      ∙ any_append (λ q. t q.kind) (earlier r rs) (same r rs ++ later r rs)
      ∙ ap (λ (b : Bool). of_kind t (earlier r rs) || b) (any_append (λ q. t q.kind) (same r rs) (later r rs))

  none_of_same : (t : ℕ → Bool) → t r.kind ≡ false → of_kind t (same r rs) ≡ false
  none_of_same t p =
      any_none (λ q. t q.kind) (same r rs)
      (each_so {Q = λ q. t q.kind ≡ false} (λ q s. ap t (sym (same_alike r q s).kind) ∙ p) (same r rs) (those_pass (same_entry r) rs))

  of_put_lem : (t : ℕ → Bool) → of_kind t (put_in r rs) ≡ (t r.kind || of_kind t rs)
  unfolding any_of
  of_put_lem t =
      ap (of_kind t) (put_parts r rs)
      ∙ any_append (λ q. t q.kind) (earlier r rs) (r ∷ later r rs)
      ∙ go (t r.kind) refl
    where
      go : (b : Bool) → t r.kind ≡ b → (of_kind t (earlier r rs) || cond b true (of_kind t (later r rs))) ≡ (b || of_kind t rs)
      go true p = or-true (of_kind t (earlier r rs))
      go false p = sym (of_parts t ∙ rw (none_of_same t p) refl)

  powerless_put : any_of lacks_control rs ≡ false → any_of lacks_control (put_in r rs) ≡ lacks_control r
  unfolding any_of
  powerless_put p =
      let f = none_any lacks_control rs p in
      ap (any_of lacks_control) (put_parts r rs)
      ∙ any_append lacks_control (earlier r rs) (r ∷ later r rs)
      ∙ rw (any_none lacks_control (earlier r rs) (those_each (λ q. lacks_control q ≡ false) (λ q. rises q r) rs f), any_none lacks_control (later r rs) (those_each (λ q. lacks_control q ≡ false) (λ q. rises r q) rs f))
      (go (lacks_control r))
    where
      go : (b : Bool) → cond b true false ≡ b
      go true = refl
      go false = refl

  of_drop_lem : (t : ℕ → Bool) → of_kind t (drop_from r rs) ≡ (of_kind t (earlier r rs) || of_kind t (later r rs))
  of_drop_lem t = ap (of_kind t) (dropped r entry home e rs o) ∙ any_append (λ q. t q.kind) (earlier r rs) (later r rs)

  -- a drop takes no record of another kind
  others_stay : (t : ℕ → Bool) → t r.kind ≡ false → of_kind t (drop_from r rs) ≡ of_kind t rs
  others_stay t p = of_drop_lem t ∙ sym (of_parts t ∙ rw (none_of_same t p) refl)

  powerful_drop : any_of lacks_control rs ≡ false → any_of lacks_control (drop_from r rs) ≡ false
  unfolding drop_from
  powerful_drop p =
      any_none lacks_control (drop_from r rs) (those_each (λ q. lacks_control q ≡ false) (λ q. not (same_entry r q)) rs (none_any lacks_control rs p))

  -- the end of a list with the record put
  module _ (old : Ended (seen_by rs)) where
    pub put_end : end_fault (seen_by (put_in r rs)) ≡ (if wants_mask r.kind && not (of_kind (λ k. eqb k 5) rs) then Some MaskMissing else if lacks_control r then Some ControlMissing else None)
    unfolding end_fault seen_by
    put_end =
        rw (of_put_lem (λ k. eqb k 2), of_put_lem (λ k. eqb k 3), of_put_lem (λ k. eqb k 4), of_put_lem (λ k. eqb k 5), of_put_lem wants_mask, powerless_put old.powerful, old.user, old.group, old.other, or-true (eqb r.kind 2), or-true (eqb r.kind 3), or-true (eqb r.kind 4))
        (ap (λ (b : Bool). if b then Some MaskMissing else if lacks_control r then Some ControlMissing else None) (mask_put r.kind (of_kind wants_mask rs) (of_kind (λ k. eqb k 5) rs) old.masked))

    -- the end of a list with the record dropped
    module _ (f : Fitting r) (fit : Each Fitting rs) where
      -- its kind is gone, where the kind has no realm and no id
      gone : (body_of r.kind).realm ≡ 0 → (body_of r.kind).id ≡ 0 → of_kind (λ k. eqb k r.kind) (drop_from r rs) ≡ false
      gone nowhere nameless =
          of_drop_lem (λ k. eqb k r.kind)
          ∙ rw (any_none (λ q. eqb q.kind r.kind) (earlier r rs) before, any_none (λ q. eqb q.kind r.kind) (later r rs) after) refl
        where
          other_kind : (q : Record) → (Alike r q → ⊥) → Fitting q → eqb q.kind r.kind ≡ false
          other_kind q apart g = ne_eqb q.kind r.kind (λ z. apart (only_kind r q f g nowhere nameless (sym z)))

          before : Each (λ q. eqb q.kind r.kind ≡ false) (earlier r rs)
          before =
              each_both (λ q p g. other_kind q (λ s. differ (sym p ∙ alike_not q r (alike_back r q s))) g) (earlier r rs)
              (those_pass (λ q. rises q r) rs) (those_each Fitting (λ q. rises q r) rs fit)

          after : Each (λ q. eqb q.kind r.kind ≡ false) (later r rs)
          after =
              each_both (λ q p g. other_kind q (λ s. differ (sym p ∙ alike_not r q s)) g) (later r rs)
              (those_pass (λ q. rises r q) rs) (those_each Fitting (λ q. rises r q) rs fit)

      gone_as : (c : ℕ) → r.kind ≡ c → (body_of c).realm ≡ 0 → (body_of c).id ≡ 0 → of_kind (λ k. eqb k c) (drop_from r rs) ≡ false
      gone_as c k nowhere nameless =
          subst (λ (x : ℕ). of_kind (λ k. eqb k x) (drop_from r rs) ≡ false) k (gone (rw k nowhere) (rw k nameless))

      kept_as : (c : ℕ) → (r.kind ≡ c → ⊥) → of_kind (λ k. eqb k c) (drop_from r rs) ≡ of_kind (λ k. eqb k c) rs
      kept_as c k = others_stay (λ k. eqb k c) (ne_eqb r.kind c k)

      -- where the mask_obj is dropped, every record after it wants one, and none before it does
      module _ (k : r.kind ≡ 5) where
        above_mask : (q : Record) → rises r q ≡ true → Fitting q → wants_mask q.kind ≡ true
        unfolding wants_mask body_of bodies body
        above_mask q p g =
            let up = kinds_rise r q p in
            let other : r.kind ≡ q.kind → ⊥ = λ z. differ (sym p ∙ alike_not r q (only_kind r q f g (rw k refl) (rw k refl) z)) in
            le-leb 6 q.kind (omega (arith, up, k, other))

        below_mask : (q : Record) → rises q r ≡ true → wants_mask q.kind ≡ false
        unfolding wants_mask
        below_mask q p = let up = kinds_rise q r p in lt-leb 6 q.kind (omega (arith, up, k))

        some_bytes : (at : ℕ) (ys : List Record) → Each (λ q. wants_mask q.kind ≡ true) ys → Each Fitting ys → of_kind wants_mask ys ≡ ltb at (at + length (spell ys))
        unfolding Each any_of spell
        some_bytes at [] w g = sym (le-ltb at (at + 0) (omega arith))
        some_bytes at (y ∷ ys) w g =
            rw w.0 (sym (lt-ltb at (at + length (spelled y ++ spell ys)) (omega (arith, length-append (spelled y) (spell ys), spelled_size y g.0, sized_some y g.0))))

        wanted : of_kind wants_mask (drop_from r rs) ≡ ltb (length (spell (earlier r rs))) (length (spell (drop_from r rs)))
        wanted =
            let ys = later r rs in
            let fits = those_each Fitting (λ q. rises r q) rs fit in
            let n : length (spell (drop_from r rs)) ≡ length (spell (earlier r rs)) + length (spell ys) =
            ap length (ap spell (dropped r entry home e rs o) ∙ spell_append (earlier r rs) ys) ∙ length-append (spell (earlier r rs)) (spell ys)
            in
            of_drop_lem wants_mask
            ∙ rw (n, any_none (λ q. wants_mask q.kind) (earlier r rs) (each_so below_mask (earlier r rs) (those_pass (λ q. rises q r) rs)))
            (some_bytes (length (spell (earlier r rs))) ys (each_both above_mask ys (those_pass (λ q. rises r q) rs) fits) fits)

      still_wanted : (of_kind wants_mask (drop_from r rs) && not (of_kind (λ k. eqb k 5) rs)) ≡ false
      unfolding seen_by
      still_wanted =
          rw (of_drop_lem wants_mask)
          (fewer (of_kind wants_mask (earlier r rs)) (of_kind wants_mask (same r rs)) (of_kind wants_mask (later r rs)) (of_kind (λ k. eqb k 5) rs) (rw (of_parts wants_mask) at old.masked))
        where
          fewer : (a b c m : Bool) → ((a || (b || c)) && not m) ≡ false → ((a || c) && not m) ≡ false
          fewer true b c m q = q
          fewer false true c true q = and-false c
          fewer false true c false q = absurd (differ q)
          fewer false false c m q = q

      abbrev at : ℕ
      at = length (spell (earlier r rs))

      abbrev n : ℕ
      n = length (spell (drop_from r rs))

      -- user_obj, group_obj or other_obj dropped
      object_gone : r.kind ≤ 4 → end_fault (seen_by (drop_from r rs)) ≡ Some ObjectMissing
      unfolding end_fault seen_by body_of bodies body
      object_gone h = go (eqb r.kind 2) (eqb r.kind 3) refl refl
        where
          go : (a b : Bool) → eqb r.kind 2 ≡ a → eqb r.kind 3 ≡ b → end_fault (seen_by (drop_from r rs)) ≡ Some ObjectMissing
          go true b p q = rw (gone_as 2 (eqb-true r.kind 2 p) refl refl) refl
          go false true p q = rw (gone_as 3 (eqb-true r.kind 3 q) refl refl, and-false (of_kind (λ k. eqb k 2) (drop_from r rs))) refl
          go false false p q =
              let k : r.kind ≡ 4 = omega (arith, eqb-false r.kind 2 p, eqb-false r.kind 3 q) in
              rw (gone_as 4 k refl refl, and-false (of_kind (λ k. eqb k 3) (drop_from r rs)), and-false (of_kind (λ k. eqb k 2) (drop_from r rs))) refl

      objects_stay : 4 < r.kind
          → end_fault (seen_by (drop_from r rs)) ≡ (if of_kind wants_mask (drop_from r rs) && not (of_kind (λ k. eqb k 5) (drop_from r rs)) then Some MaskMissing else None)
      unfolding end_fault seen_by
      objects_stay h =
          rw (kept_as 2 (λ z. omega arith) ∙ old.user, kept_as 3 (λ z. omega arith) ∙ old.group, kept_as 4 (λ z. omega arith) ∙ old.other, powerful_drop old.powerful) refl

      pub drop_end : end_fault (seen_by (drop_from r rs)) ≡ (if leb r.kind 4 then Some ObjectMissing else if eqb r.kind 5 && ltb at n then Some MaskMissing else None)
      unfolding body_of bodies body
      drop_end = go (leb r.kind 4) (eqb r.kind 5) refl refl
        where
          go : (a b : Bool) → leb r.kind 4 ≡ a → eqb r.kind 5 ≡ b → end_fault (seen_by (drop_from r rs)) ≡ (if a then Some ObjectMissing else if b && ltb at n then Some MaskMissing else None)
          go true b p q = object_gone (leb-true r.kind 4 p)
          go false true p q =
              let k = eqb-true r.kind 5 q in
              objects_stay (leb-false r.kind 4 p) ∙ rw (gone_as 5 k refl refl, wanted k, and-true (ltb at n)) refl
          go false false p q =
              objects_stay (leb-false r.kind 4 p) ∙ rw (kept_as 5 (eqb-false r.kind 5 q), still_wanted) refl
