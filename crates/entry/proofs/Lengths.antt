-- The lengths of an entry's parts, by its kind. Assumes nothing.
use Rattle.std.specs.Prelude.{if◌then◌else◌}
use mathlib.Core.Path.{◌≡◌, refl, sym, ◌∙◌}
use mathlib.Core.List.{List}
use mathlib.Core.Bool.{Bool, true, not, ◌||◌}
use Prim.Native.Nat.{ℕ, ◌+◌, ◌≤◌, ◌<◌}
use native.Mathlib.Omega.{arith}
use borrow.Author.Tests.{eqb-true, leb-true, lt-ltb, le-ltb}
use lib.Dec.{eqb, leb, ltb}
use lib.ListN.{get_or}
use Rattle.words.specs.Number.{number_at}
use Rattle.words.specs.Realm.{realm_at}
use Rattle.words.proofs.Tests.{and_left, and_right}
use Rattle.records.specs.Kind.{body, bodies, body_of, body_length, size, is_known}
use Rattle.records.specs.Reading.{record_of}
use Rattle.records.proofs.Bodies.{every_below, below}
use Rattle.entry.specs.Entry.{is_entry, record_for}

-- what holds of the kinds 2 to 11, by a test over the table
of_entries : (test : ℕ → Bool) → every_below 12 (λ k. not (is_entry k) || test k) ≡ true → (k : ℕ) → is_entry k ≡ true → test k ≡ true
unfolding is_entry
of_entries test t k entry =
    let h = leb-true k 11 (and_right (leb 2 k) (leb k 11) entry) in
    rw entry at (below 12 (λ k. not (is_entry k) || test k) t k (omega arith))

module _ (k : ℕ) (entry : is_entry k ≡ true) where
  pub is_above : 1 < k
  unfolding is_entry
  is_above = leb-true 2 k (and_left (leb 2 k) (leb k 11) entry)

  realm_is : (body_of k).realm ≡ (if ltb k 9 then 0 else 16)
  unfolding every_below is_entry body_of bodies body
  realm_is = eqb-true _ _ (of_entries (λ k. eqb (body_of k).realm (if ltb k 9 then 0 else 16)) refl k entry)

  id_is : (body_of k).id ≡ (if ltb k 7 then 0 else if ltb 10 k then 0 else 4)
  unfolding every_below is_entry body_of bodies body
  id_is = eqb-true _ _ (of_entries (λ k. eqb (body_of k).id (if ltb k 7 then 0 else if ltb 10 k then 0 else 4)) refl k entry)

  pub rights_is : (body_of k).rights ≡ 1
  unfolding every_below is_entry body_of bodies body
  rights_is = eqb-true _ _ (of_entries (λ k. eqb (body_of k).rights 1) refl k entry)

  pub no_realm : k < 9 → 0 ≡ (body_of k).realm
  no_realm h = sym (realm_is ∙ rw (lt-ltb k 9 h) refl)

  pub a_realm : 9 ≤ k → 16 ≡ (body_of k).realm
  a_realm h = sym (realm_is ∙ rw (le-ltb k 9 h) refl)

  pub no_id_yet : k < 7 → 0 ≡ (body_of k).id
  no_id_yet h = sym (id_is ∙ rw (lt-ltb k 7 h) refl)

  pub no_id_more : 7 ≤ k → 10 < k → 0 ≡ (body_of k).id
  no_id_more h l = sym (id_is ∙ rw (le-ltb k 7 h, lt-ltb 10 k l) refl)

  pub an_id : 7 ≤ k → k ≤ 10 → 4 ≡ (body_of k).id
  an_id h l = sym (id_is ∙ rw (le-ltb k 7 h, le-ltb 10 k l) refl)

  pub size_is : size k ≡ 2 + (body_of k).realm + (body_of k).id
  unfolding size body_length
  size_is = omega (arith, rights_is)

  -- a record that has a realm is 18 bytes long, or longer
  pub realm_by_size : (body_of k).realm ≡ (if ltb (size k) 18 then 0 else 16)
  unfolding every_below is_entry body_of bodies body size body_length
  realm_by_size = eqb-true _ _ (of_entries (λ k. eqb (body_of k).realm (if ltb (size k) 18 then 0 else 16)) refl k entry)

  pub is_known_lem : is_known k ≡ true
  unfolding is_known body_length
  is_known_lem = lt-ltb 0 ((body_of k).realm + (body_of k).id + (body_of k).rights) (omega (arith, rights_is))

-- the record at the head of a tail, read as an entry
pub head_is : (t : List ℕ) → is_entry (get_or t 0 0) ≡ true
    → record_for (record {
      kind = get_or t 0 0;
      realm = realm_at 1 t;
      id = number_at 4 (1 + (body_of (get_or t 0 0)).realm) t;
      rights = get_or t (1 + (body_of (get_or t 0 0)).realm + (body_of (get_or t 0 0)).id) 0;
    }) ≡ record_of (get_or t 0 0) t
unfolding record_for record_of
head_is t entry = rw (rights_is (get_or t 0 0) entry) refl
