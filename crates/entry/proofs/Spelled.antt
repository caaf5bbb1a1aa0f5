-- A record in bytes: what is spelled is read again, and what was read is spelled as it stood. Assumes nothing.
use Rattle.std.specs.Prelude.{if◌then◌else◌, Some, Ok}
use mathlib.Core.Path.{◌≡◌, refl, sym, ◌∙◌, ap, subst}
use mathlib.Core.List.{List, [], ◌∷◌, ◌++◌, append_assoc}
use mathlib.Core.Bool.{Bool, true, false}
use Prim.Native.Nat.{ℕ, ◌+◌, ◌≤◌, ◌<◌, ◌^◌}
use native.Mathlib.Omega.{arith}
use borrow.Author.Tests.{eqb-true, ne_eqb, le-ltb}
use lib.Dec.{eqb}
use lib.ListN.{length, get_or, take, length-append}
use lib.Seq.{drop-cons, get_or_at}
use Rattle.words.specs.Number.{Bytes, part, number_at}
use Rattle.words.specs.Writing.{digits}
use Rattle.words.specs.Realm.{zero_realm, realm_at, realm_bytes}
use Rattle.words.proofs.Digits.{part_add}
use Rattle.words.proofs.Written.{digits_length, realm_length, number_again, FitsRealm, realm_again, number_spelled, number_fits, realm_spelled, realm_fits}
use Rattle.records.specs.Kind.{body_of, body_length, size, is_known}
use Rattle.records.specs.Reading.{record_of, read_as, read_of}
use Rattle.records.specs.declared.records.Record.{Record}
use Rattle.records.proofs.Bodies.{either, full, realm_length as realms, id_length as ids, rights_length as rightses}
use Rattle.records.proofs.Tails.{Is, sized}
use Rattle.records.proofs.Bytewise.{first_byte}
use Rattle.entry.specs.Spelling.{part_of, spelled}

-- a part of a body that is n bytes long: none, or w
module _ (w n : ℕ) (e : either w n ≡ true) where
  pub part_length : (xs : List ℕ) → length xs ≡ w → length (part_of n xs) ≡ n
  unfolding part_of
  part_length xs l = go (eqb n 0) refl
    where
      go : (b : Bool) → eqb n 0 ≡ b → length (if b then [] else xs) ≡ n
      go true q = sym (eqb-true n 0 q)
      go false q = l ∙ sym (full w n e q)

  module _ {A : Type 0} (none : A) where
    -- what is read of it is what was spelled
    back : (value x : A) → (eqb n 0 ≡ true → x ≡ none) → (eqb n 0 ≡ false → value ≡ x) → (if eqb n 0 then none else value) ≡ x
    back value x zero same = go (eqb n 0) refl
      where
        go : (b : Bool) → eqb n 0 ≡ b → (if b then none else value) ≡ x
        go true q = sym (zero q)
        go false q = same q

    -- what was read of it has a property, and is spelled as it stood
    module _ (value : A) where
      held : (P : A → Type 0) → P none → (n ≡ w → P value) → P (if eqb n 0 then none else value)
      held P zero some = go (eqb n 0) refl
        where
          go : (b : Bool) → eqb n 0 ≡ b → P (if b then none else value)
          go true q = zero
          go false q = some (full w n e q)

      stood : (spelling : A → List ℕ) (at : ℕ) (t : List ℕ) → (n ≡ w → spelling value ≡ part at w t) → part_of n (spelling (if eqb n 0 then none else value)) ≡ part at n t
      unfolding part_of
      stood spelling at t same = go (eqb n 0) refl
        where
          go : (b : Bool) → eqb n 0 ≡ b → (if b then [] else spelling (if b then none else value)) ≡ part at n t
          go true q = let z = eqb-true n 0 q in rw z refl
          go false q = let z = full w n e q in same z ∙ ap (λ (m : ℕ). part at m t) (sym z)

pub part_whole : (n : ℕ) (xs : List ℕ) → eqb n 0 ≡ false → part_of n xs ≡ xs
unfolding part_of
part_whole n xs q = rw q refl

-- a record that a list can hold
pub record Fitting (r : Record) : Type 0 where
  pub known : is_known r.kind ≡ true
  pub sized : r.size ≡ size r.kind
  pub no_realm : eqb (body_of r.kind).realm 0 ≡ true → r.realm ≡ zero_realm
  pub no_id : eqb (body_of r.kind).id 0 ≡ true → r.id ≡ 0
  pub no_rights : eqb (body_of r.kind).rights 0 ≡ true → r.rights ≡ 0
  pub realm : FitsRealm r.realm
  pub id : r.id < 256 ^ 4

-- the parts of a record's body
module _ (r : Record) where
  abbrev k : ℕ
  k = r.kind

  abbrev a : List ℕ
  a = part_of (body_of k).realm (realm_bytes r.realm)

  abbrev b : List ℕ
  b = part_of (body_of k).id (digits 4 r.id)

  abbrev g : List ℕ
  g = part_of (body_of k).rights (r.rights ∷ [])

  pub length_a : length a ≡ (body_of k).realm
  length_a = part_length 16 (body_of k).realm (realms k) (realm_bytes r.realm) (realm_length r.realm)

  pub length_b : length b ≡ (body_of k).id
  length_b = part_length 4 (body_of k).id (ids k) (digits 4 r.id) (digits_length 4 r.id)

  length_g : length g ≡ (body_of k).rights
  length_g = part_length 1 (body_of k).rights (rightses k) (r.rights ∷ []) refl

  pub spelled_length : length (spelled r) ≡ size k
  unfolding spelled size body_length
  spelled_length = omega (arith, length-append a (b ++ g), length-append b g, length_a, length_b, length_g)

  flat : (t : List ℕ) → spelled r ++ t ≡ k ∷ (a ++ (b ++ (g ++ t)))
  unfolding spelled
  flat t = simp append_assoc

  module _ (t : List ℕ) (f : Fitting r) where
    whole : List ℕ
    whole = k ∷ (a ++ (b ++ (g ++ t)))

    realm_back : (if eqb (body_of k).realm 0 then zero_realm else realm_at 1 whole) ≡ r.realm
    unfolding whole
    realm_back =
        back 16 (body_of k).realm (realms k) zero_realm (realm_at 1 whole) r.realm f.no_realm
        (λ q. rw (part_whole (body_of k).realm (realm_bytes r.realm) q) (realm_again (k ∷ []) (b ++ (g ++ t)) 1 r.realm refl f.realm))

    id_back : (if eqb (body_of k).id 0 then 0 else number_at 4 (1 + (body_of k).realm) whole) ≡ r.id
    unfolding whole
    id_back =
        back 4 (body_of k).id (ids k) 0 (number_at 4 (1 + (body_of k).realm) whole) r.id f.no_id
        (λ q. rw (part_whole (body_of k).id (digits 4 r.id) q) (number_again (k ∷ a) (g ++ t) (1 + (body_of k).realm) 4 r.id (omega (arith, length_a)) f.id))

    rights_back : (if eqb (body_of k).rights 0 then 0 else get_or whole (1 + (body_of k).realm + (body_of k).id) 0) ≡ r.rights
    unfolding whole
    rights_back =
        back 1 (body_of k).rights (rightses k) 0 (get_or whole (1 + (body_of k).realm + (body_of k).id) 0) r.rights f.no_rights
        (λ q. rw (part_whole (body_of k).rights (r.rights ∷ []) q, ← append_assoc a b (r.rights ∷ t))
        (get_or_at (k ∷ (a ++ b)) r.rights t 0 (1 + (body_of k).realm + (body_of k).id) (omega (arith, length-append a b, length_a, length_b))))

    record_back : record_of k whole ≡ r
    unfolding record_of
    record_back = λ j. record { kind = k; realm = realm_back j; id = id_back j; rights = rights_back j; size = sym f.sized j }

    -- what is spelled is read again, whatever follows it
    pub read_back : read_of (spelled r ++ t) ≡ Ok (Some r)
    unfolding read_of read_as whole
    read_back =
        let l : length (spelled r ++ t) ≡ size k + length t = length-append (spelled r) t ∙ ap (λ (n : ℕ). n + length t) spelled_length in
        let m : size k ≤ length whole = omega (arith, ap length (flat t), l) in
        let z : length whole ≡ 0 → ⊥ = λ q. omega arith in
        rw (flat t) (simp (ne_eqb _ _ z, f.known, le-ltb _ _ m) (ap (λ (q : Record). Ok (Some q)) record_back))

-- a record of a kind that was read fits, and is spelled as it stood
module _ (t : List ℕ) (ht : Bytes t) (k : ℕ) (enough : size k ≤ length t) where
  abbrev n : ℕ
  n = (body_of k).realm

  abbrev i : ℕ
  i = (body_of k).id

  ends : 1 + n + i + (body_of k).rights ≤ length t
  unfolding size body_length
  ends = omega arith

  fits_of : is_known k ≡ true → Fitting (record_of k t)
  unfolding record_of zero_realm
  fits_of known = record {
    known = known;
    sized = refl;
    no_realm = λ q. rw q refl;
    no_id = λ q. rw q refl;
    no_rights = λ q. rw q refl;
    realm = held 16 n (realms k) zero_realm (realm_at 1 t) FitsRealm (record { hi = omega arith; lo = omega arith }) (λ q. realm_fits t ht 1 (omega (arith, ends)));
    id = held 4 i (ids k) 0 (number_at 4 (1 + n) t) (λ x. x < 256 ^ 4) (omega arith) (λ q. number_fits t ht (1 + n) 4 (omega (arith, ends)));
  }

  one_byte : (at : ℕ) → at < length t → get_or t at 0 ∷ [] ≡ part at 1 t
  one_byte at h = rw (drop-cons t at 0 h) refl

  spelled_of : k ≡ get_or t 0 0 → spelled (record_of k t) ≡ take (size k) t
  unfolding spelled record_of size body_length
  spelled_of q =
      let g = (body_of k).rights in
      let e : 1 + (n + i) ≡ 1 + n + i = omega arith in
      let one : take 1 t ≡ k ∷ [] = first_byte t (omega (arith, ends)) ∙ ap (λ (x : ℕ). x ∷ []) (sym q) in
      let realm = stood 16 n (realms k) zero_realm (realm_at 1 t) realm_bytes 1 t (λ z. realm_spelled t ht 1 (omega (arith, ends))) in
      let id = stood 4 i (ids k) 0 (number_at 4 (1 + n) t) (digits 4) (1 + n) t (λ z. number_spelled t ht (1 + n) 4 (omega (arith, ends))) in
      let rights = stood 1 g (rightses k) 0 (get_or t (1 + n + i) 0) (λ x. x ∷ []) (1 + n + i) t (λ z. one_byte (1 + n + i) (omega (arith, ends))) in
      rw (realm, id, rights)
      (sym (part_add 0 1 (n + i + g) t ∙ rw (one, part_add 1 (n + i) g t, part_add 1 n i t, e, append_assoc (part 1 n t) (part (1 + n) i t) (part (1 + n + i) g t))))

module _ (t : List ℕ) (ht : Bytes t) (r : Record) (is : Is t r) where
  pub read_fits : Fitting r
  read_fits = subst Fitting is.same (fits_of t ht (get_or t 0 0) is.enough is.known)

  pub spelled_as : spelled r ≡ take r.size t
  spelled_as = ap spelled (sym is.same) ∙ spelled_of t ht (get_or t 0 0) is.enough refl ∙ ap (λ (n : ℕ). take n t) (sym (sized t r is))
