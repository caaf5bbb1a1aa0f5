-- The verdict on a list with a record put or dropped, told from the old list. Assumes nothing.
use Rattle.std.specs.Prelude.{if◌then◌else◌, None, Some}
use mathlib.Core.Path.{◌≡◌, refl, sym, ◌∙◌, ap, subst}
use mathlib.Core.List.{List, [], ◌∷◌, ◌++◌}
use mathlib.Core.Bool.{Bool, true, false, not, ◌&&◌}
use Prim.Native.Nat.{ℕ, ◌+◌, ◌<◌}
use native.Mathlib.Nat.{zero-add}
use native.Mathlib.Omega.{arith}
use borrow.Author.Tests.{eqb-true, eqb-false, ltb-false, lt-ltb, le-ltb}
use lib.Dec.{eqb, leb, ltb}
use lib.ListN.{length}
use Rattle.words.specs.Said.{done, refused, and_then}
use Rattle.words.specs.Number.{Bytes}
use Rattle.words.specs.Realm.{zero_realm, realm_at}
use Rattle.words.specs.Refusal.{number_of}
use Rattle.words.specs.declared.realm.Realm.{Realm}
use Rattle.words.specs.declared.refusal.Fault.TheVariants.{RightsAbove63, ForbiddenRealm, ObjectMissing, MaskMissing, ControlMissing}
use Rattle.words.proofs.Tests.{Each, each_so, each_append, those_each, those_pass, any_alike, any_map}
use Rattle.records.specs.Kind.{body, bodies, body_of, wants_mask}
use Rattle.records.specs.Standing.{rises, is_forbidden, lacks_control}
use Rattle.list.specs.Fault.{begins, no_record, end_fault}
use Rattle.list.specs.Checking.{Placed, records, refused_at, faults_after, has, seen_in, check_says}
use Rattle.records.specs.declared.records.Record.{Record}
use Rattle.records.proofs.Ordered.{rises_trans}
use Rattle.list.proofs.Passed.{passes}
use Rattle.entry.specs.Spelling.{spelled, spell}
use Rattle.entry.specs.NewList.{records_in, same_entry, put_in, drop_from}
use Rattle.entry.specs.Plan.{spot_for}
use Rattle.entry.specs.Spot.{has_mask, put_verdict, drop_verdict}
use Rattle.entry.specs.declared.spot.Spot.{Spot}
use Rattle.entry.proofs.Spelled.{Fitting}
use Rattle.entry.proofs.Cuts.{finds, cut_spell, records_spell, spelled_whole, all_fit}
use Rattle.entry.proofs.Sorted.{InOrder, in_order_all, alike_same, not_same}
use Rattle.entry.proofs.Heads.{Headed, headed, home_is}
use Rattle.entry.proofs.Spots.{before_cons, first_before}
use Rattle.entry.proofs.Splits.{earlier, same, later, put_parts, split, dropped, last_of, last_rises, prefix, suffix, joined, restart}
use Rattle.entry.proofs.Parts.{drop_length, there}
use Rattle.entry.proofs.Faultless.{own_fault, faults_past, faults_none, faults_one, has_places}
use Rattle.entry.proofs.Endings.{of_kind, seen_by, Ended, ended, put_end, drop_end}

-- what the end asks, of records that are spelled
seen_spell : (rs : List Record) → Each Fitting rs → seen_in (records (spell rs)) ≡ seen_by rs
unfolding seen_in seen_by
seen_spell rs f =
    rw (records_spell rs f, has_places (λ r. eqb r.kind 2) 0 rs, has_places (λ r. eqb r.kind 3) 0 rs, has_places (λ r. eqb r.kind 4) 0 rs, has_places (λ r. eqb r.kind 5) 0 rs, has_places (λ r. wants_mask r.kind) 0 rs, has_places lacks_control 0 rs)
    refl

-- a record's own refusals, then the end's
put_ladder : (at n : ℕ) (a b c d e : Bool)
    → (if a then refused 10 (0 ∷ []) else
    and_then (refused_at at (if b then Some RightsAbove63 else if c then Some ForbiddenRealm else None)) (refused_at n (if d then Some MaskMissing else if e then Some ControlMissing else None)))
    ≡ (if a then refused 10 (0 ∷ []) else
    if b then refused 14 (at ∷ []) else
    if c then refused 16 (at ∷ []) else
    if d then refused 18 (n ∷ []) else
    if e then refused 19 (n ∷ []) else
    done [])
unfolding refused_at and_then number_of
put_ladder at n true b c d e = refl
put_ladder at n false true c d e = refl
put_ladder at n false false true d e = refl
put_ladder at n false false false true e = refl
put_ladder at n false false false false true = refl
put_ladder at n false false false false false = refl

drop_ladder : (n : ℕ) (a b : Bool)
    → and_then (done []) (refused_at n (if a then Some ObjectMissing else if b then Some MaskMissing else None)) ≡ (if a then refused 17 (n ∷ []) else if b then refused 18 (n ∷ []) else done [])
unfolding refused_at and_then number_of
drop_ladder n true b = refl
drop_ladder n false true = refl
drop_ladder n false false = refl

module _ (list : List ℕ) (bytes : Bytes list) (passing : check_says list ≡ done []) where
  abbrev rs : List Record
  rs = records_in list

  abbrev home : Realm
  home = realm_at 1 list

  head : Headed list
  head = headed list bytes passing

  order : InOrder home no_record rs
  order = in_order_all list passing

  fit : Each Fitting rs
  fit = all_fit list bytes passing

  old_seen : seen_in (records list) ≡ seen_by rs
  old_seen = ap (λ (l : List ℕ). seen_in (records l)) (sym (spelled_whole list bytes passing)) ∙ seen_spell rs fit

  old_ended : Ended (seen_by rs)
  old_ended = ended (seen_by rs) (ap end_fault (sym old_seen) ∙ (passes list passing).ended)

  mask_is : has_mask list ≡ of_kind (λ k. eqb k 5) rs
  unfolding has_mask has records_in
  mask_is = sym (any_map (λ (q : Record). eqb q.kind 5) (λ (p : Placed). p.it) (records list))

  -- a list that begins with the same default realm
  module _ (new rest : List Record) (e : new ≡ head.first ∷ rest) where
    whole : spell new ≡ spelled head.first ++ spell rest
    unfolding spell
    whole = ap spell e

    begun : begins (spell new) ≡ true
    unfolding begins spelled
    begun = rw (whole, head.kind) refl

    same_home : realm_at 1 (spell new) ≡ home
    unfolding spell
    same_home =
        let old : spelled head.first ++ spell head.rest ≡ list = ap spell (sym head.all) ∙ spelled_whole list bytes passing in
        ap (realm_at 1) whole ∙ home_is list head (spell rest) ∙ sym (home_is list head (spell head.rest)) ∙ ap (realm_at 1) old

    check_new : Each Fitting new
        → check_says (spell new)
        ≡ (if ltb 4096 (length (spell new)) then refused 10 (0 ∷ []) else
        and_then (faults_after home no_record (finds 0 new)) (refused_at (length (spell new)) (end_fault (seen_by new))))
    unfolding check_says
    check_new f = rw (begun, same_home, cut_spell new f, seen_spell new f) refl

  module _ (r : Record) (entry : 1 < r.kind) (f : Fitting r) where
    first_stays : rises head.first r ≡ true
    first_stays = first_before head.first r head.kind entry

    earlier_first : earlier r rs ≡ head.first ∷ earlier r head.rest
    earlier_first = ap (earlier r) head.all ∙ before_cons r head.first head.rest first_stays

    below : Each (λ q. rises q r ≡ true) (earlier r rs)
    below = those_pass (λ q. rises q r) rs

    above : Each (λ q. rises r q ≡ true) (later r rs)
    above = those_pass (λ q. rises r q) rs

    fit_earlier : Each Fitting (earlier r rs)
    fit_earlier = those_each Fitting (λ q. rises q r) rs fit

    fit_later : Each Fitting (later r rs)
    fit_later = those_each Fitting (λ q. rises r q) rs fit

    in_parts : InOrder home no_record (earlier r rs ++ (same r rs ++ later r rs))
    in_parts = subst (InOrder home no_record) (split r entry home no_record rs order) order

    order_earlier : InOrder home no_record (earlier r rs)
    order_earlier = prefix home no_record (earlier r rs) (same r rs ++ later r rs) in_parts

    -- those after follow any record that they come after
    order_later : (d : Record) → Each (λ q. rises d q ≡ true) (later r rs) → InOrder home d (later r rs)
    order_later d =
        restart home _ d (later r rs)
        (suffix home (last_of no_record (earlier r rs)) (same r rs) (later r rs) (suffix home no_record (earlier r rs) (same r rs ++ later r rs) in_parts))

    first_rises : rises no_record r ≡ true
    unfolding rises no_record
    first_rises = rw (lt-ltb 0 r.kind (omega arith)) refl

    last_before : rises (last_of no_record (earlier r rs)) r ≡ true
    last_before = last_rises no_record r (earlier r rs) first_rises below

    pub fit_put : Each Fitting (put_in r rs)
    unfolding Each
    fit_put = rw (put_parts r rs) (each_append Fitting (earlier r rs) (r ∷ later r rs) fit_earlier (f, fit_later))

    pub fit_drop : Each Fitting (drop_from r rs)
    unfolding drop_from
    fit_drop = those_each Fitting (λ q. not (same_entry r q)) rs fit

    faults_put : faults_after home no_record (finds 0 (put_in r rs)) ≡ refused_at (length (spell (earlier r rs))) (own_fault home r)
    faults_put =
        ap (λ (xs : List Record). faults_after home no_record (finds 0 xs)) (put_parts r rs)
        ∙ faults_past home no_record 0 (earlier r rs) (r ∷ later r rs) order_earlier fit_earlier
        ∙ faults_one home (last_of no_record (earlier r rs)) (0 + length (spell (earlier r rs))) r (later r rs) last_before (order_later r above)
        ∙ ap (λ (n : ℕ). refused_at n (own_fault home r)) (zero-add (length (spell (earlier r rs))))

    faults_drop : faults_after home no_record (finds 0 (drop_from r rs)) ≡ done []
    faults_drop =
        let after = each_so {Q = λ q. rises (last_of no_record (earlier r rs)) q ≡ true} (λ q p. rises_trans (last_of no_record (earlier r rs)) r q last_before p) (later r rs) above in
        ap (λ (xs : List Record). faults_after home no_record (finds 0 xs)) (dropped r entry home no_record rs order)
        ∙ faults_none home no_record 0 (earlier r rs ++ later r rs) (joined home no_record (earlier r rs) (later r rs) order_earlier (order_later (last_of no_record (earlier r rs)) after))

    -- the new list with the record put
    pub put_verdict_lem : (at n : ℕ) → at ≡ length (spell (earlier r rs)) → n ≡ length (spell (put_in r rs)) → check_says (spell (put_in r rs)) ≡ put_verdict list r at n
    unfolding put_verdict own_fault
    put_verdict_lem at n p q =
        check_new (put_in r rs) (earlier r head.rest ++ (r ∷ later r rs)) (put_parts r rs ∙ ap (λ (xs : List Record). xs ++ (r ∷ later r rs)) earlier_first) fit_put
        ∙ rw (faults_put, put_end r entry home no_record rs order old_ended, mask_is, p, q)
        (put_ladder (length (spell (earlier r rs))) (length (spell (put_in r rs))) (ltb 4096 (length (spell (put_in r rs)))) (ltb 63 r.rights) (is_forbidden home r) (wants_mask r.kind && not (of_kind (λ k. eqb k 5) rs)) (lacks_control r))

    shorter : ltb 4096 (length (spell (drop_from r rs))) ≡ false
    shorter = le-ltb 4096 (length (spell (drop_from r rs))) (omega (arith, ltb-false 4096 (length list) (passes list passing).short, drop_length list bytes passing r entry))

    -- the new list with the record dropped
    pub drop_verdict_lem : (at n : ℕ) → at ≡ length (spell (earlier r rs)) → n ≡ length (spell (drop_from r rs)) → check_says (spell (drop_from r rs)) ≡ drop_verdict r.kind at n
    unfolding drop_verdict
    drop_verdict_lem at n p q =
        check_new (drop_from r rs) (earlier r head.rest ++ later r rs) (dropped r entry home no_record rs order ∙ ap (λ (xs : List Record). xs ++ later r rs) earlier_first) fit_drop
        ∙ rw (shorter, faults_drop, drop_end r entry home no_record rs order old_ended f fit, p, q)
        (drop_ladder (length (spell (drop_from r rs))) (leb r.kind 4) (eqb r.kind 5 && ltb (length (spell (earlier r rs))) (length (spell (drop_from r rs)))))

  -- a mask_obj is told by its kind
  abbrev mask : Record
  mask = record { kind = 5; realm = record { hi = 0; lo = 0 }; id = 0; rights = 0; size = 2 }

  mask_alike : (q : Record) → Fitting q → same_entry mask q ≡ eqb q.kind 5
  unfolding body_of bodies body zero_realm
  mask_alike q f = go (eqb q.kind 5) refl
    where
      go : (b : Bool) → eqb q.kind 5 ≡ b → same_entry mask q ≡ b
      go true p =
          let k = eqb-true q.kind 5 p in
          alike_same mask q (record { kind = sym k; realm = sym (f.no_realm (rw k refl)); id = sym (f.no_id (rw k refl)) })
      go false p = not_same mask q (λ s. eqb-false q.kind 5 p (sym s.kind))

  pub mask_told : {s : Spot} → s ≡ spot_for list mask → ltb 0 s.size ≡ has_mask list
  mask_told found =
      ap (λ (s : Spot). ltb 0 s.size) found
      ∙ there list bytes passing mask (omega arith)
      ∙ any_alike (same_entry mask) (λ q. eqb q.kind 5) rs (each_so mask_alike rs fit)
      ∙ sym mask_is
