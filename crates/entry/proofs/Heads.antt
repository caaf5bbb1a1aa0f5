-- A list that passes begins with the record of the default realm, and every other record of it is an entry. Assumes nothing.
use mathlib.Core.Path.{◌≡◌, refl, sym, ◌∙◌}
use mathlib.Core.List.{List, [], ◌∷◌, ◌++◌}
use mathlib.Core.Bool.{Bool, true, false, not, ◌||◌, ◌&&◌}
use Prim.Native.Nat.{ℕ, ◌≤◌, ◌<◌}
use borrow.Author.Tests.{ltb-true, ltb-false, eqb-true, le-leb}
use lib.Dec.{eqb, ltb}
use lib.ListN.{get_or}
use Rattle.words.specs.Said.{done}
use Rattle.words.specs.Number.{Bytes}
use Rattle.words.specs.Realm.{realm_at, less_realm}
use Rattle.words.proofs.Tests.{differ, Each, each_both}
use Rattle.records.specs.Kind.{body, body_length, is_known}
use Rattle.records.specs.Standing.{rises}
use Rattle.list.specs.Fault.{begins, no_record}
use Rattle.list.specs.Checking.{check_says}
use Rattle.records.specs.declared.records.Record.{Record}
use Rattle.records.proofs.Bodies.{beyond}
use Rattle.records.proofs.Tails.{is}
use Rattle.list.proofs.Passed.{passes, named}
use Rattle.entry.specs.Entry.{is_entry}
use Rattle.entry.specs.Spelling.{spelled, spell}
use Rattle.entry.specs.NewList.{records_in}
use Rattle.entry.proofs.Spelled.{Fitting, read_back}
use Rattle.entry.proofs.Cuts.{spelled_whole, all_fit}
use Rattle.entry.proofs.Sorted.{InOrder, in_order_all, above_all}

-- the first record of a list, which says the default realm, and the entries after it
pub record Headed (list : List ℕ) : Type 0 where
  pub first : Record
  pub rest : List Record
  pub all : records_in list ≡ first ∷ rest
  pub kind : first.kind ≡ 1
  pub fits : Fitting first
  pub fit : Each Fitting rest
  pub order : InOrder (realm_at 1 list) first rest

module _ (list : List ℕ) (bytes : Bytes list) (passing : check_says list ≡ done []) where
  pub headed : Headed list
  unfolding spell spelled begins Each InOrder
  headed = go (records_in list) refl (spelled_whole list bytes passing) (all_fit list bytes passing) (in_order_all list passing)
    where
      go : (rs : List Record) → records_in list ≡ rs → spell rs ≡ list → Each Fitting rs → InOrder (realm_at 1 list) no_record rs → Headed list
      go [] q s f o =
          let b : eqb (get_or [] 0 0) 1 ≡ true = rw (← s) at (passes list passing).begun in
          absurd (differ (sym b))
      go (h ∷ rs) q s f o = record {
        first = h;
        rest = rs;
        all = q;
        kind = eqb-true h.kind 1 (rw (← s) at (passes list passing).begun);
        fits = f.0;
        fit = f.1;
        order = o.1;
      }

-- after the default realm comes a kind above 1, and none is known above 11
after_first : (h q : Record) → h.kind ≡ 1 → rises h q ≡ true → 1 < q.kind
unfolding rises
after_first h q k p = go (ltb 1 q.kind) (eqb 1 q.kind) refl refl (rw k at p)
  where
    go : (a b : Bool) → ltb 1 q.kind ≡ a → eqb 1 q.kind ≡ b
        → (a || (b && (not (eqb q.kind 1) && less_realm h.realm q.realm (ltb h.id q.id)))) ≡ true → 1 < q.kind
    go true b s t p = ltb-true 1 q.kind s
    go false true s t p = let e = eqb-true 1 q.kind t in absurd (differ (sym p ∙ rw (← e) refl))
    go false false s t p = absurd (differ (sym p))

known_below : (k : ℕ) → is_known k ≡ true → k ≤ 11
unfolding is_known body_length body
known_below k p = go (ltb 11 k) refl
  where
    go : (b : Bool) → ltb 11 k ≡ b → k ≤ 11
    go true q = absurd (differ (sym p ∙ rw (beyond k (ltb-true 11 k q)) refl))
    go false q = ltb-false 11 k q

entry_kind : (h q : Record) → h.kind ≡ 1 → rises h q ≡ true → Fitting q → is_entry q.kind ≡ true
unfolding is_entry
entry_kind h q k p f =
    let a = after_first h q k p in
    let b = known_below q.kind f.known in
    rw (le-leb 2 q.kind a, le-leb q.kind 11 b) refl

module _ (list : List ℕ) (head : Headed list) where
  pub entries : Each (λ q. is_entry q.kind ≡ true) head.rest
  entries =
      each_both (λ q p f. entry_kind head.first q head.kind p f) head.rest (above_all (realm_at 1 list) head.first head.rest head.order) head.fit

  -- the default realm is the first record's, whatever follows it
  pub home_is : (t : List ℕ) → realm_at 1 (spelled head.first ++ t) ≡ head.first.realm
  unfolding spelled
  home_is t =
      sym (named (spelled head.first ++ t) head.first head.kind (is (spelled head.first ++ t) head.first (read_back head.first t head.fits)))
