-- An edit of a list that passes, whose entry's record was found: the new list's length and the verdict on it. Assumes nothing.
use Rattle.std.specs.Prelude.{if◌then◌else◌}
use mathlib.Core.Path.{◌≡◌, refl, sym, ◌∙◌, ap}
use mathlib.Core.List.{List, []}
use mathlib.Core.Bool.{Bool, true, false}
use Prim.Native.Nat.{ℕ, ◌+◌, ◌≤◌, ◌<◌, ◌^◌}
use native.Mathlib.Omega.{arith}
use borrow.Author.Tests.{eqb-true}
use lib.Dec.{eqb, ltb}
use lib.ListN.{length}
use Rattle.words.specs.Test.{any_of}
use Rattle.words.specs.Said.{done}
use Rattle.words.specs.Number.{Bytes}
use Rattle.words.specs.Realm.{zero_realm}
use Rattle.words.proofs.Written.{FitsRealm}
use Rattle.records.specs.Kind.{body_of, size}
use Rattle.list.specs.Checking.{check_says}
use Rattle.records.specs.declared.records.Record.{Record}
use Rattle.entry.specs.Entry.{is_entry, record_for}
use Rattle.entry.specs.Spelling.{spell}
use Rattle.entry.specs.NewList.{records_in, same_entry, putting, dropping, has_entry}
use Rattle.entry.specs.Plan.{spot_for}
use Rattle.entry.specs.Spot.{InWidth, Says, put_verdict, drop_verdict}
use Rattle.entry.specs.declared.entries.Entry.{Entry}
use Rattle.entry.specs.declared.spot.Spot.{Spot}
use Rattle.entry.proofs.Lengths.{is_above, is_known_lem, rights_is}
use Rattle.entry.proofs.Spelled.{Fitting}
use Rattle.entry.proofs.Splits.{earlier}
use Rattle.entry.proofs.Parts.{inside, put_length, drop_length, there}
use Rattle.entry.proofs.Verdicts.{put_verdict_lem, drop_verdict_lem}

-- the record of an entry fits
pub entry_fits : (entry : Entry) → is_entry entry.kind ≡ true → InWidth entry → Fitting (record_for entry)
unfolding record_for zero_realm
entry_fits entry is_entry_kind numbers = record {
  known = is_known_lem entry.kind is_entry_kind;
  sized = refl;
  no_realm = λ q. rw q refl;
  no_id = λ q. rw q refl;
  no_rights = λ q. let one = rights_is entry.kind is_entry_kind in let z = eqb-true (body_of entry.kind).rights 0 q in absurd (omega arith);
  realm = realm_part (eqb (body_of entry.kind).realm 0);
  id = id_part (eqb (body_of entry.kind).id 0);
}
  where
    realm_part : (b : Bool) → FitsRealm (if b then zero_realm else entry.realm)
    realm_part true = record { hi = omega arith; lo = omega arith }
    realm_part false = record { hi = numbers.hi; lo = numbers.lo }

    id_part : (b : Bool) → (if b then 0 else entry.id) < 256 ^ 4
    id_part true = omega arith
    id_part false = numbers.id

-- an edit of a list that passes, of an entry whose record was found
pub record Located (list : List ℕ) (entry : Entry) (r : Record) (s : Spot) : Type 0 where
  pub bytes : Bytes list
  pub passing : check_says list ≡ done []
  pub says : Says entry r
  pub found : s ≡ spot_for list r

pub locate : {list : List ℕ} {entry : Entry} {r : Record} {s : Spot} → Bytes list → check_says list ≡ done [] → Says entry r → s ≡ spot_for list r → Located list entry r s
locate bytes passing says found = record { bytes = bytes; passing = passing; says = says; found = found }

module _ {list : List ℕ} {entry : Entry} {r : Record} {s : Spot} (located : Located list entry r s) where
  is_record : r ≡ record_for entry
  is_record = located.says.is_record

  above : 1 < r.kind
  above = is_above r.kind located.says.is_entry_kind

  pub entered : is_entry entry.kind ≡ true
  unfolding record_for
  entered = ap (λ (q : Record). is_entry q.kind) (sym is_record) ∙ located.says.is_entry_kind

  fits_r : Fitting r
  fits_r = rw is_record (entry_fits entry entered located.says.numbers)

  pub spot_is : s ≡ spot_for list (record_for entry)
  spot_is = located.found ∙ ap (spot_for list) is_record

  pub size_is : r.size ≡ size entry.kind
  unfolding record_for
  size_is = ap (λ (q : Record). q.size) is_record

  pub spot_inside : s.at + s.size ≤ length list
  spot_inside = rw located.found (inside list located.bytes located.passing r above)

  pub put_long : (n : ℕ) → n + s.size ≡ length list + r.size → n ≡ length (putting list entry)
  unfolding putting
  put_long n e =
      let l = put_length list located.bytes located.passing r above in
      let w = ap (λ (s : Spot). s.size) located.found in
      rw (← is_record) (omega (arith, l, w, fits_r.sized))

  pub drop_long : (n : ℕ) → n + s.size ≡ length list → n ≡ length (dropping list entry)
  unfolding dropping
  drop_long n e =
      let l = drop_length list located.bytes located.passing r above in
      let w = ap (λ (s : Spot). s.size) located.found in
      rw (← is_record) (omega (arith, l, w))

  place : s.at ≡ length (spell (earlier r (records_in list)))
  unfolding spot_for
  place = ap (λ (s : Spot). s.at) located.found

  pub put_judged_lem : (n : ℕ) → n + s.size ≡ length list + r.size → check_says (putting list entry) ≡ put_verdict list r s.at n
  unfolding putting
  put_judged_lem n e =
      rw (← is_record) (put_verdict_lem list located.bytes located.passing r above fits_r s.at n place (put_long n e ∙ rw (← is_record) refl))

  pub drop_judged_lem : (n : ℕ) → n + s.size ≡ length list → check_says (dropping list entry) ≡ drop_verdict entry.kind s.at n
  unfolding dropping record_for
  drop_judged_lem n e =
      rw (← is_record) (drop_verdict_lem list located.bytes located.passing r above fits_r s.at n place (drop_long n e ∙ rw (← is_record) refl))
      ∙ ap (λ (q : Record). drop_verdict q.kind s.at n) is_record

  pub told : ltb 0 s.size ≡ has_entry list entry
  unfolding has_entry
  told =
      ap (λ (s : Spot). ltb 0 s.size) located.found
      ∙ there list located.bytes located.passing r above
      ∙ ap (λ (q : Record). any_of (same_entry q) (records_in list)) is_record
