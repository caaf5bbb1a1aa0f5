-- What is written: the record of an entry part by part. Assumes nothing.
use Rattle.std.specs.Prelude.{if◌then◌else◌}
use mathlib.Core.Path.{◌≡◌, refl, sym, ◌∙◌, ap}
use mathlib.Core.List.{List, [], ◌∷◌, ◌++◌, append_assoc}
use mathlib.Core.Bool.{Bool, true, false}
use Prim.Native.Nat.{ℕ, ◌+◌, ◌-◌, ◌≤◌, ◌<◌}
use native.Mathlib.Omega.{arith}
use borrow.Author.Tests.{eq-eqb, ne_eqb}
use lib.Dec.{eqb, ltb}
use lib.ListN.{length, set, length-append}
use Rattle.words.specs.Number.{within}
use Rattle.words.specs.Writing.{digits, over, written}
use Rattle.words.specs.Realm.{zero_realm, realm_bytes}
use Rattle.words.proofs.Written.{over_length, over_next, over_none, set_over, written_all}
use Rattle.records.specs.Kind.{body_of, size as size_of}
use Rattle.records.specs.declared.records.Record.{Record}
use Rattle.entry.specs.Entry.{is_entry, record_for}
use Rattle.entry.specs.Spelling.{part_of, spelled}
use Rattle.entry.specs.declared.entries.Entry.{Entry}
use Rattle.entry.proofs.Lengths.{rights_is, size_is, realm_by_size}
use Rattle.entry.proofs.Spelled.{part_whole, length_a, length_b, spelled_length}

-- a part of a body, where its kind has it and where it has not
pub part_there : (at n : ℕ) (piece out : List ℕ) → (n ≡ 0 → ⊥) → written at piece out ≡ written at (part_of n piece) out
unfolding part_of
part_there at n piece out z = rw (ne_eqb n 0 z) refl

pub part_not_there : (at n : ℕ) (piece out : List ℕ) → n ≡ 0 → out ≡ written at (part_of n piece) out
unfolding part_of written
part_not_there at n piece out z = rw (eq-eqb n 0 z) (go (within at 0 out))
  where
    go : (b : Bool) → out ≡ (if b then over at [] out else out)
    go true = sym (over_none at out)
    go false = refl

-- a piece after others
next_piece : (at m n : ℕ) (xs ys out : List ℕ) → length xs ≡ m → length ys ≡ n → at + (m + n) ≤ length out → written (at + m) ys (over at xs out) ≡ over at (xs ++ ys) out
next_piece at m n xs ys out l k h =
    written_all (at + m) ys (over at xs out) (omega (arith, over_length at xs out (omega arith))) ∙ over_next at m xs ys out l (omega arith)

module _ (r : Record) (at : ℕ) (out : List ℕ) (entry : is_entry r.kind ≡ true) (room : at + size_of r.kind ≤ length out) where
  abbrev k : ℕ
  k = r.kind

  abbrev a : List ℕ
  a = part_of (body_of k).realm (realm_bytes r.realm)

  abbrev b : List ℕ
  b = part_of (body_of k).id (digits 4 r.id)

  kind_first : set out at k ≡ over at (k ∷ []) out
  kind_first = set_over out at k (omega (arith, size_is k entry))

  realm_next : written (at + 1) a (over at (k ∷ []) out) ≡ over at (k ∷ a) out
  realm_next = next_piece at 1 (body_of k).realm (k ∷ []) a out refl (length_a r) (omega (arith, size_is k entry))

  id_next : written (at + 1 + (body_of k).realm) b (over at (k ∷ a) out) ≡ over at (k ∷ (a ++ b)) out
  id_next =
      let e : at + 1 + (body_of k).realm ≡ at + (1 + (body_of k).realm) = omega arith in
      rw e (next_piece at (1 + (body_of k).realm) (body_of k).id (k ∷ a) b out (omega (arith, length_a r)) (length_b r) (omega (arith, size_is k entry)))

  rights_last : set (over at (k ∷ (a ++ b)) out) (at + 1 + (body_of k).realm + (body_of k).id) r.rights ≡ over at (k ∷ (a ++ b ++ (r.rights ∷ []))) out
  rights_last =
      let e : at + 1 + (body_of k).realm + (body_of k).id ≡ at + (1 + (body_of k).realm + (body_of k).id) = omega arith in
      let l : length (k ∷ (a ++ b)) ≡ 1 + (body_of k).realm + (body_of k).id = omega (arith, length-append a b, length_a r, length_b r) in
      let h : at + (1 + (body_of k).realm + (body_of k).id) < length (over at (k ∷ (a ++ b)) out) = omega (arith, size_is k entry, over_length at (k ∷ (a ++ b)) out (omega (arith, size_is k entry, l))) in
      rw (e, set_over (over at (k ∷ (a ++ b)) out) (at + (1 + (body_of k).realm + (body_of k).id)) r.rights h)
      (over_next at (1 + (body_of k).realm + (body_of k).id) (k ∷ (a ++ b)) (r.rights ∷ []) out l (omega (arith, size_is k entry)))

  all_spelled : k ∷ (a ++ b ++ (r.rights ∷ [])) ≡ spelled r
  unfolding spelled
  all_spelled = rw (part_whole (body_of k).rights (r.rights ∷ []) (rw (rights_is k entry) refl)) (ap (λ (xs : List ℕ). k ∷ xs) (append_assoc a b (r.rights ∷ [])))

  record_written : set (written (at + 1 + (body_of k).realm) b (written (at + 1) a (set out at k))) (at + 1 + (body_of k).realm + (body_of k).id) r.rights ≡ over at (spelled r) out
  record_written = rw (kind_first, realm_next, id_next, rights_last) (ap (λ (xs : List ℕ). over at xs out) all_spelled)

-- what a kind has not is not written, whatever it is
unwritten : {A : Type 0} (n : ℕ) (spelling : A → List ℕ) (none x : A) → part_of n (spelling x) ≡ part_of n (spelling (if eqb n 0 then none else x))
unfolding part_of
unwritten n spelling none x = go (eqb n 0)
  where
    go : (t : Bool) → (if t then [] else spelling x) ≡ (if t then [] else spelling (if t then none else x))
    go true = refl
    go false = refl

pub record_length : (entry : Entry) {size : ℕ} → size ≡ size_of entry.kind → length (spelled (record_for entry)) ≡ size
unfolding record_for
record_length entry sized = spelled_length (record_for entry) ∙ sym sized

-- an entry's record, from the numbers as they were given
module _ (entry : Entry) {size : ℕ} (is_entry_kind : is_entry entry.kind ≡ true) (sized : size ≡ size_of entry.kind) {n : ℕ} (realm : n ≡ (if ltb size 18 then 0 else 16)) where
  abbrev given : Record
  given = record { kind = entry.kind; realm = entry.realm; id = entry.id; rights = entry.rights; size = size }

  given_spelled : spelled given ≡ spelled (record_for entry)
  unfolding spelled record_for
  given_spelled = rw (unwritten (body_of entry.kind).realm realm_bytes zero_realm entry.realm, unwritten (body_of entry.kind).id (digits 4) 0 entry.id) refl

  realm_is : n ≡ (body_of entry.kind).realm
  realm_is = realm ∙ ap (λ (m : ℕ). if ltb m 18 then 0 else 16) sized ∙ sym (realm_by_size entry.kind is_entry_kind)

  id_is : size - 2 - n ≡ (body_of entry.kind).id
  id_is = omega (arith, sized, realm_is, size_is entry.kind is_entry_kind)

  pub has_realm : 2 + n ≤ size
  has_realm = omega (arith, sized, realm_is, size_is entry.kind is_entry_kind)

  pub entry_written : (at : ℕ) (out : List ℕ) → at + size ≤ length out
      → set (written (at + 1 + n) (part_of (size - 2 - n) (digits 4 entry.id)) (written (at + 1) (part_of n (realm_bytes entry.realm)) (set out at entry.kind))) (at + 1 + n + (size - 2 - n)) entry.rights ≡ over at (spelled (record_for entry)) out
  entry_written at out room =
      rw (id_is, realm_is) (record_written given at out is_entry_kind (rw sized at room) ∙ ap (λ (xs : List ℕ). over at xs out) given_spelled)
