-- What a record that was read from a tail takes of it. Assumes nothing.
use Rattle.std.specs.Prelude.{if◌then◌else◌}
use mathlib.Core.Path.{◌≡◌, refl, sym, ap, ◌∙◌}
use mathlib.Core.List.{List}
use mathlib.Core.Bool.{Bool, true, false, not}
use Prim.Native.Nat.{ℕ, ◌+◌, ◌≤◌, ◌<◌}
use native.Mathlib.Omega.{arith}
use borrow.Author.Tests.{ltb-false, eqb-true, lt-ltb, le-ltb}
use lib.Dec.{eqb, ltb}
use lib.ListN.{length, get_or}
use Rattle.words.specs.Number.{number_at}
use Rattle.words.specs.Realm.{zero_realm, realm_at}
use Rattle.records.specs.Kind.{body, body_of, body_length, is_known, size}
use Rattle.records.specs.Reading.{Read, record_of, read_as, read_of, read_says, ReadsRecord}
use Rattle.records.proofs.Bodies.{some_size}
use Rattle.records.specs.declared.records.Record.{Record}
use Rattle.std.specs.Prelude.{None, Some, Ok, Err}
use Rattle.words.specs.declared.refusal.Fault.TheVariants.{UnknownKind, CutShort}

-- a whole record at the head of a tail
pub record Is (t : List ℕ) (r : Record) : Type 0 where
  pub known : is_known (get_or t 0 0) ≡ true
  pub enough : size (get_or t 0 0) ≤ length t
  pub same : record_of (get_or t 0 0) t ≡ r

pub is : (t : List ℕ) (r : Record) → read_of t ≡ Ok (Some r) → Is t r
unfolding read_of read_as
is t r = go (eqb (length t) 0) (is_known (get_or t 0 0)) (ltb (length t) (size (get_or t 0 0))) refl refl
  where
    go : (a b c : Bool) → is_known (get_or t 0 0) ≡ b → ltb (length t) (size (get_or t 0 0)) ≡ c
        → (if a then Ok None else if not b then Err UnknownKind else if c then Err CutShort else Ok (Some (record_of (get_or t 0 0) t))) ≡ Ok (Some r)
        → Is t r
    go true b c h k q = cc
    go false false c h k q = cc
    go false true true h k q = cc
    go false true false h k q = record { known = h; enough = ltb-false (length t) (size (get_or t 0 0)) k; same = cc }

-- it has its kind's length, and ends within the tail
pub sized : (t : List ℕ) (r : Record) → Is t r → r.size ≡ size (get_or t 0 0)
unfolding record_of
sized t r i = sym (ap (λ (x : Record). x.size) i.same)

pub within_tail : (t : List ℕ) (r : Record) → read_of t ≡ Ok (Some r) → (0 < r.size) × (r.size ≤ length t)
within_tail t r q = let i = is t r q in let s = sized t r i in omega (arith, some_size (get_or t 0 0), i.enough)

-- where its kind has no realm it names none
pub unplaced : (t : List ℕ) (r : Record) → Is t r → eqb (body_of r.kind).realm 0 ≡ true → r.realm ≡ zero_realm
unfolding record_of
unplaced t r i none =
    let k : get_or t 0 0 ≡ r.kind = ap (λ (x : Record). x.kind) i.same in
    sym (ap (λ (x : Record). x.realm) i.same) ∙ rw (k, none) refl

-- only an empty tail has nothing to read
pub empty : (t : List ℕ) → read_of t ≡ Ok None → length t ≡ 0
unfolding read_of read_as
empty t = go (eqb (length t) 0) (is_known (get_or t 0 0)) (ltb (length t) (size (get_or t 0 0))) refl
  where
    go : (a b c : Bool) → eqb (length t) 0 ≡ a
        → (if a then Ok None else if not b then Err UnknownKind else if c then Err CutShort else Ok (Some (record_of (get_or t 0 0) t))) ≡ Ok None
        → length t ≡ 0
    go true b c h q = eqb-true (length t) 0 h
    go false false c h q = cc
    go false true true h q = cc
    go false true false h q = cc

-- what a tail of a kind is read as, by the lengths of its kind's parts
pub no_body : (k : ℕ) (t : List ℕ) → body_of k ≡ body 0 0 0 → Err UnknownKind ≡ read_as k t
unfolding read_as is_known body_length body
no_body k t q = simp q

module _ (k : ℕ) (t : List ℕ) (realm id rights : ℕ) (q : body_of k ≡ body realm id rights) (some : 0 < realm + id + rights) where
  size_is : size k ≡ 1 + realm + id + rights
  unfolding size body_length body
  size_is = rw q (omega arith)

  known : is_known k ≡ true
  unfolding is_known body_length body
  known = rw q (lt-ltb 0 (realm + id + rights) some)

  pub read_short : length t < 1 + realm + id + rights → Err CutShort ≡ read_as k t
  unfolding read_as
  read_short h = simp (known, size_is, lt-ltb (length t) (1 + realm + id + rights) h)

  pub read_whole : 1 + realm + id + rights ≤ length t
      → Ok (Some (record {
        kind = k;
        realm = if eqb realm 0 then zero_realm else realm_at 1 t;
        id = if eqb id 0 then 0 else number_at 4 (1 + realm) t;
        rights = if eqb rights 0 then 0 else get_or t (1 + realm + id) 0;
        size = 1 + realm + id + rights;
      })) ≡ read_as k t
  unfolding read_as record_of body
  read_whole h = simp (known, size_is, le-ltb (length t) (1 + realm + id + rights) h, q)

-- what a tail says is read, where it is empty and where it is not
pub none : (t : List ℕ) → eqb (length t) 0 ≡ true → ReadsRecord t (Ok None)
unfolding read_of
none t e = record { answer = simp e }

pub some : (t : List ℕ) → eqb (length t) 0 ≡ false → {r : Read} → r ≡ read_as (get_or t 0 0) t → ReadsRecord t r
unfolding read_of
some t e q = record { answer = simp e (ap read_says q) }
