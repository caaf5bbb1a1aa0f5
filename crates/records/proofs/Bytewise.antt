-- The order of records by their numbers is the order of their bytes. Assumes nothing.
use Rattle.std.specs.Prelude.{if◌then◌else◌, Some, Ok}
use mathlib.Core.Path.{◌≡◌, refl, sym, ◌∙◌, ap}
use mathlib.Core.List.{List, [], ◌∷◌, ◌++◌, append-nil}
use mathlib.Core.Bool.{Bool, true, false, not, ◌&&◌}
use Prim.Native.Nat.{ℕ, ◌+◌, ◌≤◌, ◌<◌}
use native.Mathlib.Omega.{arith}
use borrow.Author.Tests.{eqb-true, eqb-false}
use lib.Dec.{eqb, ltb}
use lib.ListN.{length, get_or, take}
use lib.Seq.{take-add}
use Rattle.words.specs.Number.{Bytes, number, part, number_at, less, before}
use Rattle.words.specs.Realm.{zero_realm, realm_at, less_realm}
use Rattle.words.proofs.Order.{apart, less_last, parts, number_at_lem, realms}
use Rattle.records.specs.Kind.{body_of, body_length, size}
use Rattle.records.specs.Reading.{record_of, read_of}
use Rattle.records.specs.Standing.{rises}
use Rattle.records.specs.Bytewise.{key, rises_in_bytes}
use Rattle.records.specs.declared.records.Record.{Record}
use Rattle.records.proofs.Bodies.{either, full, realm_length, id_length, some_size}
use Rattle.records.proofs.Tails.{Is, is}

-- what follows the kind in a key
body_key : ℕ → List ℕ → List ℕ
body_key k t = if eqb k 1 then [] else part 1 (body_of k).realm t ++ (part (1 + (body_of k).realm) (body_of k).id t ++ [])

pub first_byte : (t : List ℕ) → 0 < length t → take 1 t ≡ get_or t 0 0 ∷ []
first_byte [] h = absurd (omega arith)
first_byte (x ∷ xs) h = refl

key_is : (t : List ℕ) → 0 < length t → key t ≡ get_or t 0 0 ∷ body_key (get_or t 0 0) t
unfolding key body_key
key_is t h = go (eqb (get_or t 0 0) 1)
  where
    go : (b : Bool) → (if b then take 1 t else take (1 + (body_of (get_or t 0 0)).realm + (body_of (get_or t 0 0)).id) t)
        ≡ get_or t 0 0 ∷ (if b then [] else part 1 (body_of (get_or t 0 0)).realm t ++ (part (1 + (body_of (get_or t 0 0)).realm) (body_of (get_or t 0 0)).id t ++ []))
    go true = first_byte t h
    go false = simp (take-add, first_byte t h, append-nil)

module _ (t u : List ℕ) (ht : Bytes t) (hu : Bytes u) where
  realm_key : (n : ℕ) → either 16 n ≡ true → 1 + n ≤ length t → 1 + n ≤ length u → (us vs : List ℕ) (r : Bool) → before us vs ≡ r
      → before (part 1 n t ++ us) (part 1 n u ++ vs) ≡ less_realm (if eqb n 0 then zero_realm else realm_at 1 t) (if eqb n 0 then zero_realm else realm_at 1 u) r
  unfolding less_realm zero_realm
  realm_key n l lt lu us vs r e = go (eqb n 0) refl
    where
      go : (b : Bool) → eqb n 0 ≡ b
          → before (part 1 n t ++ us) (part 1 n u ++ vs) ≡ less_realm (if b then zero_realm else realm_at 1 t) (if b then zero_realm else realm_at 1 u) r
      go true q = rw (eqb-true n 0 q) e
      go false q = let s = full 16 n l q in rw s (realms t u ht hu 1 us vs r (omega arith) (omega arith) e)

  id_key : (at n : ℕ) → either 4 n ≡ true → at + n ≤ length t → at + n ≤ length u
      → before (part at n t ++ []) (part at n u ++ []) ≡ ltb (if eqb n 0 then 0 else number_at 4 at t) (if eqb n 0 then 0 else number_at 4 at u)
  unfolding before
  id_key at n l lt lu = go (eqb n 0) refl
    where
      go : (b : Bool) → eqb n 0 ≡ b
          → before (part at n t ++ []) (part at n u ++ []) ≡ ltb (if b then 0 else number_at 4 at t) (if b then 0 else number_at 4 at u)
      go true q = rw (eqb-true n 0 q) refl
      go false q =
          let s = full 4 n l q in
          let ft : at + 4 ≤ length t = omega arith in
          let fu : at + 4 ≤ length u = omega arith in
          rw (s, number_at_lem 4 at t ft, number_at_lem 4 at u fu) (parts t u ht hu at 4 [] [] false ft fu refl ∙ less_last (number (part at 4 t)) (number (part at 4 u)))

  -- two records of one kind
  same_kind : (k : ℕ) → size k ≤ length t → size k ≤ length u
      → (not (eqb k 1) && less_realm (record_of k t).realm (record_of k u).realm (ltb (record_of k t).id (record_of k u).id)) ≡ before (body_key k t) (body_key k u)
  unfolding record_of body_key size body_length before
  same_kind k lt lu = go (eqb k 1)
    where
      go : (b : Bool)
          → (not b && less_realm (record_of k t).realm (record_of k u).realm (ltb (record_of k t).id (record_of k u).id))
          ≡ before (if b then [] else part 1 (body_of k).realm t ++ (part (1 + (body_of k).realm) (body_of k).id t ++ []))
          (if b then [] else part 1 (body_of k).realm u ++ (part (1 + (body_of k).realm) (body_of k).id u ++ []))
      go true = refl
      go false =
          sym (realm_key (body_of k).realm (realm_length k) (omega arith) (omega arith) _ _ _
          (id_key (1 + (body_of k).realm) (body_of k).id (id_length k) (omega arith) (omega arith)))

  module _ (p e : Record) (is-p : Is t p) (is-e : Is u e) where
    agrees : less (get_or t 0 0) (get_or u 0 0) (not (eqb (get_or u 0 0) 1) && less_realm (record_of (get_or t 0 0) t).realm (record_of (get_or u 0 0) u).realm (ltb (record_of (get_or t 0 0) t).id (record_of (get_or u 0 0) u).id))
        ≡ less (get_or t 0 0) (get_or u 0 0) (before (body_key (get_or t 0 0) t) (body_key (get_or u 0 0) u))
    agrees = go (eqb (get_or t 0 0) (get_or u 0 0)) refl
      where
        go : (b : Bool) → eqb (get_or t 0 0) (get_or u 0 0) ≡ b
            → less (get_or t 0 0) (get_or u 0 0) (not (eqb (get_or u 0 0) 1) && less_realm (record_of (get_or t 0 0) t).realm (record_of (get_or u 0 0) u).realm (ltb (record_of (get_or t 0 0) t).id (record_of (get_or u 0 0) u).id))
            ≡ less (get_or t 0 0) (get_or u 0 0) (before (body_key (get_or t 0 0) t) (body_key (get_or u 0 0) u))
        go true q =
            let k = eqb-true (get_or t 0 0) (get_or u 0 0) q in
            let et : size (get_or u 0 0) ≤ length t = rw k at is-p.enough in
            rw k (ap (λ (r : Bool). less (get_or u 0 0) (get_or u 0 0) r) (same_kind (get_or u 0 0) et is-e.enough))
        go false q = let n = eqb-false (get_or t 0 0) (get_or u 0 0) q in apart _ _ _ n ∙ sym (apart _ _ _ n)

    in_bytes : rises p e ≡ rises_in_bytes t u
    unfolding rises rises_in_bytes before record_of
    in_bytes =
        let ft : 0 < length t = omega (arith, some_size (get_or t 0 0), is-p.enough) in
        let fu : 0 < length u = omega (arith, some_size (get_or u 0 0), is-e.enough) in
        rw (← is-p.same, ← is-e.same, key_is t ft, key_is u fu) agrees

  -- a record may follow another by their numbers exactly when it may by their bytes
  pub bytewise : (p e : Record) → read_of t ≡ Ok (Some p) → read_of u ≡ Ok (Some e) → rises p e ≡ rises_in_bytes t u
  bytewise p e rp re = in_bytes p e (is t p rp) (is u e re)
