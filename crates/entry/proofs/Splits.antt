-- Records in order are those that come before an entry's record, the same one where there is one, and those that come after it. Assumes
-- nothing.
use Rattle.std.specs.Prelude.{if◌then◌else◌}
use mathlib.Core.Path.{◌≡◌, refl, sym, ◌∙◌, ap}
use mathlib.Core.List.{List, [], ◌∷◌, ◌++◌, append_assoc}
use mathlib.Core.Bool.{Bool, true, false, not}
use Prim.Native.Nat.{ℕ, ◌<◌}
use Rattle.words.specs.Test.{those}
use Rattle.words.specs.declared.realm.Realm.{Realm}
use Rattle.words.proofs.Tests.{Each, each_so, those_append, those_all, those_none, those_pass}
use Rattle.records.specs.Standing.{rises}
use Rattle.records.specs.declared.records.Record.{Record}
use Rattle.records.proofs.Ordered.{rises_asym}
use Rattle.entry.specs.Spelling.{spelled, spell}
use Rattle.entry.specs.NewList.{same_entry, put_in, drop_from}
use Rattle.entry.proofs.Sorted.{InOrder, before_differs, after_differs, none_before, rest_after, the_same}

module _ (r : Record) where
  -- those before, the same one, those after
  abbrev pub earlier : List Record → List Record
  earlier = those (λ q. rises q r)

  abbrev pub same : List Record → List Record
  same = those (same_entry r)

  abbrev pub later : List Record → List Record
  later = those (λ q. rises r q)

  -- a put stands between those before and those after
  pub put_parts : (rs : List Record) → put_in r rs ≡ earlier rs ++ (r ∷ later rs)
  unfolding put_in
  put_parts rs = refl

  -- neither those before nor those after are the same
  abbrev pub differs : Record → Bool
  differs q = not (same_entry r q)

  pub earlier_differ : (rs : List Record) → those differs (earlier rs) ≡ earlier rs
  earlier_differ rs =
      those_all differs (earlier rs) (each_so {Q = λ q. differs q ≡ true} (λ q p. ap not (before_differs r q p)) (earlier rs) (those_pass (λ q. rises q r) rs))

  pub later_differ : (rs : List Record) → those differs (later rs) ≡ later rs
  later_differ rs =
      those_all differs (later rs) (each_so {Q = λ q. differs q ≡ true} (λ q p. ap not (after_differs r q p)) (later rs) (those_pass (λ q. rises r q) rs))

  same_do_not : (rs : List Record) → those differs (same rs) ≡ []
  same_do_not rs = those_none differs (same rs) (each_so {Q = λ q. differs q ≡ false} (λ q p. ap not p) (same rs) (those_pass (same_entry r) rs))

  goes_before : (q : Record) (qs : List Record) → rises q r ≡ true → qs ≡ earlier qs ++ (same qs ++ later qs)
      → q ∷ qs ≡ earlier (q ∷ qs) ++ (same (q ∷ qs) ++ later (q ∷ qs))
  unfolding those
  goes_before q qs p ih = rw (p, before_differs r q p, rises_asym q r p) (ap (λ (xs : List Record). q ∷ xs) ih)

  module _ (entry : 1 < r.kind) where
    stays : (home : Realm) (q : Record) (qs : List Record) → InOrder home q qs → rises q r ≡ false
        → q ∷ qs ≡ earlier (q ∷ qs) ++ (same (q ∷ qs) ++ later (q ∷ qs))
    stays home q qs o p = rw (none_before r entry q p home qs o, the_same r entry q p home qs o, rest_after r entry q p home qs o) (go (rises r q))
      where
        go : (t : Bool) → q ∷ qs ≡ (if t then [] else q ∷ []) ++ (if t then q ∷ qs else qs)
        go true = refl
        go false = refl

    pub split : (home : Realm) (e : Record) (rs : List Record) → InOrder home e rs → rs ≡ earlier rs ++ (same rs ++ later rs)
    unfolding those InOrder
    split home e [] o = refl
    split home e (q ∷ qs) o = go (split home q qs o.1) (rises q r) refl
      where
        go : qs ≡ earlier qs ++ (same qs ++ later qs) → (t : Bool) → rises q r ≡ t → q ∷ qs ≡ earlier (q ∷ qs) ++ (same (q ∷ qs) ++ later (q ∷ qs))
        go ih true p = goes_before q qs p ih
        go ih false p = stays home q qs o.1 p

    -- dropping leaves those before and those after
    pub dropped : (home : Realm) (e : Record) (rs : List Record) → InOrder home e rs → drop_from r rs ≡ earlier rs ++ later rs
    unfolding drop_from
    dropped home e rs o =
        ap (those differs) (split home e rs o)
        ∙ those_append differs (earlier rs) (same rs ++ later rs)
        ∙ rw (earlier_differ rs, those_append differs (same rs) (later rs), same_do_not rs, later_differ rs) refl

-- the last of some records, after another
unfoldable pub last_of : Record → List Record → Record
last_of e [] = e
last_of e (r ∷ rs) = last_of r rs

pub last_rises : (e r : Record) (xs : List Record) → rises e r ≡ true → Each (λ q. rises q r ≡ true) xs → rises (last_of e xs) r ≡ true
unfolding last_of Each
last_rises e r [] p b = p
last_rises e r (x ∷ xs) p b = last_rises x r xs b.0 b.1

module _ (home : Realm) where
  pub prefix : (e : Record) (xs ys : List Record) → InOrder home e (xs ++ ys) → InOrder home e xs
  unfolding InOrder
  prefix e [] ys o = tt
  prefix e (x ∷ xs) ys o = (o.0, prefix x xs ys o.1)

  pub suffix : (e : Record) (xs ys : List Record) → InOrder home e (xs ++ ys) → InOrder home (last_of e xs) ys
  unfolding InOrder last_of
  suffix e [] ys o = o
  suffix e (x ∷ xs) ys o = suffix x xs ys o.1

  pub joined : (e : Record) (xs ys : List Record) → InOrder home e xs → InOrder home (last_of e xs) ys → InOrder home e (xs ++ ys)
  unfolding InOrder last_of
  joined e [] ys o p = p
  joined e (x ∷ xs) ys o p = (o.0, joined x xs ys o.1 p)

  -- after another record that they come after
  pub restart : (e d : Record) (ys : List Record) → InOrder home e ys → Each (λ q. rises d q ≡ true) ys → InOrder home d ys
  unfolding InOrder Each
  restart e d [] o a = tt
  restart e d (y ∷ ys) o a = ((o.0.0, a.0), o.1)

pub spell_append : (xs ys : List Record) → spell (xs ++ ys) ≡ spell xs ++ spell ys
unfolding spell
spell_append [] ys = refl
spell_append (x ∷ xs) ys = ap (λ (t : List ℕ). spelled x ++ t) (spell_append xs ys) ∙ sym (append_assoc (spelled x) (spell xs) (spell ys))
