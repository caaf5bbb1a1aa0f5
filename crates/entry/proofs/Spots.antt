-- The search for an entry's record: it starts after the default realm, goes on past the records that come before, and stops. Assumes
-- nothing.
use Rattle.std.specs.Prelude.{if◌then◌else◌}
use mathlib.Core.Path.{◌≡◌, refl, sym, ◌∙◌, ap, subst}
use mathlib.Core.List.{List, [], ◌∷◌, ◌++◌, append-nil}
use mathlib.Core.Bool.{Bool, true, false}
use Prim.Native.Nat.{ℕ, ◌+◌, ◌≤◌, ◌<◌}
use native.Mathlib.Nat.{add-zero, zero-add}
use native.Mathlib.Omega.{arith}
use borrow.Author.Tests.{lt-ltb}
use lib.ListN.{length, get_or, drop, length-append, length-drop}
use lib.Seq.{get_or-drop, drop-drop, drop_at}
use Rattle.std.proofs.Common.{Ordering, Less, Equal, Greater}
use Rattle.words.specs.Test.{those}
use Rattle.words.specs.Said.{done}
use Rattle.words.specs.Number.{Bytes}
use Rattle.words.specs.Realm.{realm_at}
use Rattle.words.proofs.Tests.{Each}
use Rattle.records.specs.Kind.{bodies, body, body_of, body_length, size}
use Rattle.records.specs.Reading.{record_of, read_of}
use Rattle.records.specs.Standing.{rises}
use Rattle.list.specs.Checking.{check_says}
use Rattle.records.specs.declared.records.Record.{Record}
use Rattle.records.proofs.Tails.{is}
use Rattle.entry.specs.Entry.{is_entry}
use Rattle.entry.specs.Spelling.{spelled, spell}
use Rattle.entry.specs.NewList.{records_in}
use Rattle.entry.specs.Plan.{spot_for}
use Rattle.entry.specs.Spot.{side_of}
use Rattle.entry.specs.declared.spot.Spot.{Spot}
use Rattle.entry.proofs.Spelled.{Fitting, spelled_length, read_back}
use Rattle.entry.proofs.Cuts.{spelled_size, sized_some, spelled_whole}
use Rattle.entry.proofs.Sorted.{InOrder, before_differs, none_before, the_same}
use Rattle.entry.proofs.Splits.{earlier, same}
use Rattle.entry.proofs.Heads.{headed, entries}
use Rattle.entry.proofs.Sides.{was_before, was_after, was_same}

pub first_of : (list : List ℕ) (at : ℕ) → get_or list at 0 ≡ get_or (drop at list) 0 0
first_of list at = sym (get_or-drop at list 0 0 ∙ ap (λ (i : ℕ). get_or list i 0) (add-zero at))

-- the search has come to a place: what is left of the records says the rest
pub record Reached (list : List ℕ) (r : Record) (at : ℕ) : Type 0 where
  pub last : Record
  pub rest : List Record
  pub inside : at ≤ length list
  pub tail : drop at list ≡ spell rest
  pub fit : Each Fitting rest
  pub entry : Each (λ q. is_entry q.kind ≡ true) rest
  pub order : InOrder (realm_at 1 list) last rest
  pub place : at + length (spell (earlier r rest)) ≡ length (spell (earlier r (records_in list)))
  pub width : length (spell (same r rest)) ≡ length (spell (same r (records_in list)))

-- one record that comes before
module _ (r q : Record) (qs : List Record) (p : rises q r ≡ true) where
  pub before_cons : earlier r (q ∷ qs) ≡ q ∷ earlier r qs
  unfolding those
  before_cons = rw p refl

  same_cons : same r (q ∷ qs) ≡ same r qs
  unfolding those
  same_cons = rw (before_differs r q p) refl

  past_place : (at : ℕ) → Fitting q → at + q.size + length (spell (earlier r qs)) ≡ at + length (spell (earlier r (q ∷ qs)))
  unfolding spell
  past_place at f =
      let l : length (spell (q ∷ earlier r qs)) ≡ length (spelled q) + length (spell (earlier r qs)) = length-append (spelled q) (spell (earlier r qs)) in
      rw before_cons (omega (arith, l, spelled_size q f))

-- a record at a place, and what is behind it
module _ (list : List ℕ) (at : ℕ) (q : Record) (qs : List Record) (tail : drop at list ≡ spelled q ++ spell qs) (f : Fitting q) where
  past_drop : drop (at + q.size) list ≡ spell qs
  past_drop = sym (drop-drop q.size at list) ∙ ap (drop q.size) tail ∙ drop_at (spelled q) (spell qs) q.size (spelled_size q f)

  past_inside : at + q.size ≤ length list
  past_inside =
      omega (arith, ap length tail, length-drop at list, length-append (spelled q) (spell qs), spelled_size q f, sized_some q f)

-- an entry comes after the default realm
pub first_before : (h r : Record) → h.kind ≡ 1 → 1 < r.kind → rises h r ≡ true
unfolding rises
first_before h r k l = rw (k, lt-ltb 1 r.kind l) refl

first_size : (h : Record) → Fitting h → h.kind ≡ 1 → 0 + h.size ≡ 17
unfolding size body_length body_of bodies body
first_size h f k = let s : h.size ≡ 17 = f.sized ∙ rw k refl in omega arith

-- the search starts after the record of the default realm
pub starts : (list : List ℕ) (r : Record) → Bytes list → check_says list ≡ done [] → 1 < r.kind → Reached list r 17
unfolding spell
starts list r bytes passing l =
    let head = headed list bytes passing in
    let h = head.first in
    let p = first_before h r head.kind l in
    let whole : drop 0 list ≡ spelled h ++ spell head.rest = sym (spelled_whole list bytes passing) ∙ ap spell head.all in
    subst (Reached list r) (first_size h head.fits head.kind)
    (record {
      last = h;
      rest = head.rest;
      inside = past_inside list 0 h head.rest whole head.fits;
      tail = past_drop list 0 h head.rest whole head.fits;
      fit = head.fit;
      entry = entries list head;
      order = head.order;
      place = past_place r h head.rest p 0 head.fits ∙ zero-add _ ∙ ap (λ (rs : List Record). length (spell (earlier r rs))) (sym head.all);
      width = ap (λ (rs : List Record). length (spell rs)) (sym (ap (same r) head.all ∙ same_cons r h head.rest p));
    })

-- the spot at which a search stops
unfoldable pub spotted : ℕ → ℕ → Spot
spotted at size = record { at = at; size = size }

module _ {list : List ℕ} {r : Record} {at : ℕ} (reached : Reached list r at) where
  -- it is the spot of the record where nothing is left of what comes before, and so much of what is the same
  is_spot : {size : ℕ} → length (spell (earlier r reached.rest)) ≡ 0 → size ≡ length (spell (same r reached.rest)) → spotted at size ≡ spot_for list r
  unfolding spotted spot_for
  is_spot z w =
      let p : at ≡ length (spell (earlier r (records_in list))) = omega (arith, reached.place) in
      λ j. record { at = p j; size = (w ∙ reached.width) j }

  -- at the end the record is not there
  pub ends : length list ≤ at → spotted at 0 ≡ spot_for list r
  unfolding spell those Each
  ends h =
      let none = go reached.rest reached.tail reached.fit in
      is_spot (ap (λ (rs : List Record). length (spell (earlier r rs))) none) (sym (ap (λ (rs : List Record). length (spell (same r rs))) none))
    where
      go : (rs : List Record) → drop at list ≡ spell rs → Each Fitting rs → rs ≡ []
      go [] t f = refl
      go (x ∷ xs) t f =
          absurd (omega (arith, ap length t, length-drop at list, length-append (spelled x) (spell xs), spelled_size x f.0, sized_some x f.0))

  -- before the end a record stands
  module _ (before : at < length list) where
    record Meets : Type 0 where
      it : Record
      others : List Record
      is_rest : reached.rest ≡ it ∷ others

    meets : Meets
    unfolding spell
    meets = go reached.rest refl
      where
        go : (rs : List Record) → reached.rest ≡ rs → Meets
        go [] q =
            let e : length (drop at list) ≡ 0 = ap length (reached.tail ∙ ap spell q) in
            absurd (omega (arith, length-drop at list))
        go (x ∷ xs) q = record { it = x; others = xs; is_rest = q }

    it : Record
    it = meets.it

    others : List Record
    others = meets.others

    fits : Fitting it × Each Fitting others
    unfolding Each it others
    fits = subst (Each Fitting) meets.is_rest reached.fit

    tail_is : drop at list ≡ spelled it ++ spell others
    unfolding spell it others
    tail_is = reached.tail ∙ ap spell meets.is_rest

    kind_is : get_or (drop at list) 0 0 ≡ it.kind
    unfolding spelled
    kind_is = ap (λ (t : List ℕ). get_or t 0 0) tail_is

    pub is_entry_kind : is_entry (get_or (drop at list) 0 0) ≡ true
    unfolding Each it others
    is_entry_kind = rw kind_is (subst (Each (λ q. is_entry q.kind ≡ true)) meets.is_rest reached.entry).0

    pub enough : size (get_or (drop at list) 0 0) ≤ length (drop at list)
    enough = rw kind_is (omega (arith, ap length tail_is, length-append (spelled it) (spell others), spelled_length it))

    -- the record that is read there
    read_it : record_of (get_or (drop at list) 0 0) (drop at list) ≡ it
    read_it = (is (drop at list) it (ap read_of tail_is ∙ read_back it (spell others) fits.0)).same

    size_it : size (get_or (drop at list) 0 0) ≡ it.size
    size_it = ap size kind_is ∙ sym fits.0.sized

    -- the search goes on behind it
    module _ {m : ℕ} (sized : m ≡ size (get_or (drop at list) 0 0)) where
      pub goes_on : (0 < m) × (at + m ≤ length list)
      goes_on = rw (sized ∙ size_it) (sized_some it fits.0, past_inside list at it others tail_is fits.0)

      pub goes : {side : Ordering} → side ≡ side_of (record_of (get_or (drop at list) 0 0) (drop at list)) r → side ≡ Less → Reached list r (at + m)
      unfolding InOrder Each it others
      goes told s =
          let p = ap (λ (q : Record). rises q r) (sym read_it) ∙ was_before (record_of (get_or (drop at list) 0 0) (drop at list)) r told s in
          let all = meets.is_rest in
          rw (sized ∙ size_it)
          (record {
            last = it;
            rest = others;
            inside = past_inside list at it others tail_is fits.0;
            tail = past_drop list at it others tail_is fits.0;
            fit = fits.1;
            entry = (subst (Each (λ q. is_entry q.kind ≡ true)) all reached.entry).1;
            order = (subst (InOrder (realm_at 1 list) reached.last) all reached.order).1;
            place = past_place r it others p at fits.0 ∙ ap (λ (rs : List Record). at + length (spell (earlier r rs))) (sym all) ∙ reached.place;
            width = ap (λ (rs : List Record). length (spell rs)) (sym (ap (same r) all ∙ same_cons r it others p)) ∙ reached.width;
          })

    -- or it stops there, with the record or without
    module _ {side : Ordering} (told : side ≡ side_of (record_of (get_or (drop at list) 0 0) (drop at list)) r) (entry : 1 < r.kind) where
      abbrev q : Record
      q = record_of (get_or (drop at list) 0 0) (drop at list)

      stops : (size : ℕ) → rises q r ≡ false → (t : Bool) → rises r q ≡ t → size ≡ (if t then 0 else it.size) → spotted at size ≡ spot_for list r
      unfolding InOrder it others spell
      stops size p t back n =
          let all = meets.is_rest in
          let p' = ap (λ (x : Record). rises x r) (sym read_it) ∙ p in
          let order = (subst (InOrder (realm_at 1 list) reached.last) all reached.order).1 in
          let turned = ap (λ (x : Record). rises r x) (sym read_it) ∙ back in
          let none = ap (earlier r) all ∙ none_before r entry it p' (realm_at 1 list) others order in
          let one = ap (same r) all ∙ the_same r entry it p' (realm_at 1 list) others order ∙ ap (λ (b : Bool). if b then [] else it ∷ []) turned in
          is_spot (ap (λ (rs : List Record). length (spell rs)) none) (n ∙ go t ∙ ap (λ (rs : List Record). length (spell rs)) (sym one))
        where
          go : (t : Bool) → (if t then 0 else it.size) ≡ length (spell (if t then [] else it ∷ []))
          go true = refl
          go false = sym (ap length (append-nil (spelled it)) ∙ spelled_size it fits.0)

      pub stops_after : side ≡ Greater → spotted at 0 ≡ spot_for list r
      stops_after s = let w = was_after q r told s in stops 0 w.0 true w.1 refl

      pub stops_same : side ≡ Equal → {m : ℕ} → m ≡ size (get_or (drop at list) 0 0) → spotted at m ≡ spot_for list r
      stops_same s {m} sized = let w = was_same q r told s in stops m w.0 false w.1 (sized ∙ size_it)
