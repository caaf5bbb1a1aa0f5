-- What an edit does to the records of a list, and what a second edit makes of them. Assumes nothing.
use mathlib.Core.Path.{◌≡◌, refl, sym, ◌∙◌, ap}
use mathlib.Core.List.{List, [], ◌∷◌, ◌++◌, append-nil}
use mathlib.Core.Bool.{Bool, true, false, not, or-true}
use Prim.Native.Nat.{ℕ, ◌<◌}
use Rattle.words.specs.Test.{any_of, those}
use Rattle.words.specs.Said.{done}
use Rattle.words.specs.Number.{Bytes}
use Rattle.words.specs.Realm.{realm_at}
use Rattle.words.proofs.Tests.{Each, each_so, those_append, those_all, those_none, those_pass, any_none, none_any, any_append}
use Rattle.records.specs.Standing.{rises}
use Rattle.list.specs.Fault.{no_record}
use Rattle.list.specs.Checking.{check_says}
use Rattle.records.specs.declared.records.Record.{Record}
use Rattle.records.proofs.Ordered.{rises_asym, Alike, alike_not}
use Rattle.entry.specs.Entry.{is_entry, record_for}
use Rattle.entry.specs.Spelling.{spell}
use Rattle.entry.specs.NewList.{records_in, same_entry, put_in, drop_from, putting, dropping, has_entry}
use Rattle.entry.specs.Spot.{InWidth}
use Rattle.entry.specs.declared.entries.Entry.{Entry}
use Rattle.entry.proofs.Lengths.{is_above}
use Rattle.entry.proofs.Spelled.{Fitting}
use Rattle.entry.proofs.Cuts.{read_again, spelled_whole}
use Rattle.entry.proofs.Sorted.{in_order_all, alike_same}
use Rattle.entry.proofs.Splits.{earlier, same, later, put_parts, differs, earlier_differ, later_differ, split, dropped}
use Rattle.entry.proofs.Verdicts.{fit_put, fit_drop}
use Rattle.entry.proofs.Located.{entry_fits}

itself : (r : Record) → Alike r r
itself r = record { kind = refl; realm = refl; id = refl }

-- records with one put among them
module _ (r : Record) (rs : List Record) where
  below : Each (λ q. rises q r ≡ true) (earlier r rs)
  below = those_pass (λ q. rises q r) rs

  above : Each (λ q. rises r q ≡ true) (later r rs)
  above = those_pass (λ q. rises r q) rs

  -- what a test leaves of them, by the three parts
  put_those : (test : Record → Bool) → those test (put_in r rs) ≡ those test (earlier r rs) ++ those test (r ∷ later r rs)
  put_those test = ap (those test) (put_parts r rs) ∙ those_append test (earlier r rs) (r ∷ later r rs)

  earlier_put : earlier r (put_in r rs) ≡ earlier r rs
  unfolding those
  earlier_put =
      let none = those_none (λ q. rises q r) (later r rs) (each_so {Q = λ q. rises q r ≡ false} (λ q p. rises_asym r q p) (later r rs) above) in
      put_those (λ q. rises q r) ∙ rw (those_all (λ q. rises q r) (earlier r rs) below, alike_not r r (itself r), none) (append-nil (earlier r rs))

  later_put : later r (put_in r rs) ≡ later r rs
  unfolding those
  later_put =
      let none = those_none (λ q. rises r q) (earlier r rs) (each_so {Q = λ q. rises r q ≡ false} (λ q p. rises_asym q r p) (earlier r rs) below) in
      put_those (λ q. rises r q) ∙ rw (none, alike_not r r (itself r), those_all (λ q. rises r q) (later r rs) above) refl

  -- putting twice is putting once
  put_again : put_in r (put_in r rs) ≡ put_in r rs
  put_again = put_parts r (put_in r rs) ∙ rw (earlier_put, later_put) (sym (put_parts r rs))

  others_put : drop_from r (put_in r rs) ≡ earlier r rs ++ later r rs
  unfolding drop_from those
  others_put = put_those (differs r) ∙ rw (earlier_differ r rs, alike_same r r (itself r), later_differ r rs) refl

  put_there : any_of (same_entry r) (put_in r rs) ≡ true
  unfolding any_of
  put_there =
      ap (any_of (same_entry r)) (put_parts r rs)
      ∙ any_append (same_entry r) (earlier r rs) (r ∷ later r rs)
      ∙ rw (alike_same r r (itself r)) (or-true (any_of (same_entry r) (earlier r rs)))

  dropped_gone : any_of (same_entry r) (drop_from r rs) ≡ false
  unfolding drop_from
  dropped_gone =
      any_none (same_entry r) (drop_from r rs)
      (each_so {Q = λ q. same_entry r q ≡ false} (λ q p. unless (same_entry r q) p) (drop_from r rs) (those_pass (differs r) rs))
    where
      unless : (b : Bool) → not b ≡ true → b ≡ false
      unless true p = sym p
      unless false p = refl

  dropped_again : drop_from r (drop_from r rs) ≡ drop_from r rs
  unfolding drop_from
  dropped_again = those_all (differs r) (drop_from r rs) (those_pass (differs r) rs)

-- an edit of a list that passes
module _ (list : List ℕ) (entry : Entry) (bytes : Bytes list) (numbers : InWidth entry) (is_entry_kind : is_entry entry.kind ≡ true) (passing : check_says list ≡ done []) where
  abbrev r : Record
  r = record_for entry

  entry_above : 1 < r.kind
  unfolding record_for
  entry_above = is_above entry.kind is_entry_kind

  fits : Fitting r
  fits = entry_fits entry is_entry_kind numbers

  -- read again, the new list has the old records with the entry put among them
  pub put_read : records_in (putting list entry) ≡ put_in r (records_in list)
  unfolding putting
  put_read = read_again (put_in r (records_in list)) (fit_put list bytes passing r entry_above fits)

  -- or without it
  pub drop_read : records_in (dropping list entry) ≡ drop_from r (records_in list)
  unfolding dropping
  drop_read = read_again (drop_from r (records_in list)) (fit_drop list bytes passing r entry_above fits)

  pub put_has : has_entry (putting list entry) entry ≡ true
  unfolding has_entry
  put_has = ap (any_of (same_entry r)) put_read ∙ put_there r (records_in list)

  pub drop_has_not : has_entry (dropping list entry) entry ≡ false
  unfolding has_entry
  drop_has_not = ap (any_of (same_entry r)) drop_read ∙ dropped_gone r (records_in list)

  in_two : drop_from r (records_in list) ≡ earlier r (records_in list) ++ later r (records_in list)
  in_two = dropped r entry_above (realm_at 1 list) no_record (records_in list) (in_order_all list passing)

  -- all other records are as they were, and in order
  pub put_others : drop_from r (records_in (putting list entry)) ≡ drop_from r (records_in list)
  put_others = ap (drop_from r) put_read ∙ others_put r (records_in list) ∙ sym in_two

  pub drop_others : drop_from r (records_in (dropping list entry)) ≡ drop_from r (records_in list)
  drop_others = ap (drop_from r) drop_read ∙ dropped_again r (records_in list)

  -- putting twice is putting once
  pub put_twice : putting (putting list entry) entry ≡ putting list entry
  unfolding putting
  put_twice = ap (λ (rs : List Record). spell (put_in r rs)) put_read ∙ ap spell (put_again r (records_in list))

  -- dropping what was put anew gives the old list
  pub drop_put : has_entry list entry ≡ false → dropping (putting list entry) entry ≡ list
  unfolding dropping has_entry
  drop_put new =
      let none : same r (records_in list) ≡ [] = those_none (same_entry r) (records_in list) (none_any (same_entry r) (records_in list) new) in
      let all = split r entry_above (realm_at 1 list) no_record (records_in list) (in_order_all list passing) in
      ap (λ (rs : List Record). spell (drop_from r rs)) put_read
      ∙ ap spell (others_put r (records_in list) ∙ sym (all ∙ rw none refl))
      ∙ spelled_whole list bytes passing
