-- The check over records that are spelled: where they are in order it finds no fault, and with one record more it finds that one's. Assumes
-- nothing.
use Rattle.std.specs.Prelude.{if◌then◌else◌, Option, None, Some, Ok}
use mathlib.Core.Path.{◌≡◌, refl, ◌∙◌, ap}
use mathlib.Core.List.{List, [], ◌∷◌, ◌++◌}
use mathlib.Core.Bool.{Bool, true}
use Prim.Native.Nat.{ℕ, ◌+◌}
use native.Mathlib.Omega.{arith}
use lib.Dec.{ltb}
use lib.ListN.{length, length-append}
use Rattle.words.specs.Test.{any_of}
use Rattle.words.specs.Said.{done, and_then}
use Rattle.words.specs.declared.realm.Realm.{Realm}
use Rattle.words.specs.declared.refusal.Fault.{Fault}
use Rattle.words.specs.declared.refusal.Fault.TheVariants.{RightsAbove63, ForbiddenRealm}
use Rattle.words.proofs.Tests.{Each}
use Rattle.records.specs.Reading.{when_whole}
use Rattle.records.specs.Standing.{rises, is_forbidden}
use Rattle.list.specs.Fault.{fault}
use Rattle.list.specs.Checking.{found, placed, refused_at, passed, faults_after, has}
use Rattle.records.specs.declared.records.Record.{Record}
use Rattle.list.proofs.Passed.{Sound}
use Rattle.entry.specs.Spelling.{spelled, spell}
use Rattle.entry.proofs.Spelled.{Fitting}
use Rattle.entry.proofs.Cuts.{places, finds, spelled_size}
use Rattle.entry.proofs.Sorted.{InOrder}
use Rattle.entry.proofs.Splits.{last_of}

-- 14 and 16, of a record at its place in the order
unfoldable pub own_fault : Realm → Record → Option Fault
own_fault home r =
    if ltb 63 r.rights then Some RightsAbove63 else
    if is_forbidden home r then Some ForbiddenRealm else
    None

nothing_after : (at : ℕ) (wrong : Option Fault) → and_then (refused_at at wrong) (done []) ≡ refused_at at wrong
unfolding and_then refused_at
nothing_after at None = refl
nothing_after at (Some wrong) = refl

module _ (home : Realm) where
  own_only : (e r : Record) → rises e r ≡ true → fault home e (Ok (Some r)) ≡ own_fault home r
  unfolding fault own_fault
  own_only e r p = rw p refl

  no_own : (r : Record) → Sound home r → own_fault home r ≡ None
  unfolding own_fault
  no_own r s = rw (s.rights, s.realm) refl

  -- past records in order
  pub faults_past : (e : Record) (at : ℕ) (xs ys : List Record) → InOrder home e xs → Each Fitting xs
      → faults_after home e (finds at (xs ++ ys)) ≡ faults_after home (last_of e xs) (finds (at + length (spell xs)) ys)
  unfolding finds faults_after found passed when_whole refused_at and_then InOrder Each last_of spell
  faults_past e at [] ys o f = ap (λ (n : ℕ). faults_after home e (finds n ys)) (omega arith)
  faults_past e at (x ∷ xs) ys o f =
      let n : at + x.size + length (spell xs) ≡ at + length (spelled x ++ spell xs) = omega (arith, length-append (spelled x) (spell xs), spelled_size x f.0) in
      rw (own_only e x o.0.1, no_own x o.0.0)
      (faults_past x (at + x.size) xs ys o.1 f.1 ∙ ap (λ (m : ℕ). faults_after home (last_of x xs) (finds m ys)) n)

  pub faults_none : (e : Record) (at : ℕ) (xs : List Record) → InOrder home e xs → faults_after home e (finds at xs) ≡ done []
  unfolding finds faults_after found passed when_whole refused_at and_then InOrder
  faults_none e at [] o = refl
  faults_none e at (x ∷ xs) o = rw (own_only e x o.0.1, no_own x o.0.0) (faults_none x (at + x.size) xs o.1)

  -- one record that the others are in order about
  pub faults_one : (e : Record) (at : ℕ) (r : Record) (ys : List Record) → rises e r ≡ true → InOrder home r ys
      → faults_after home e (finds at (r ∷ ys)) ≡ refused_at at (own_fault home r)
  unfolding finds faults_after found passed when_whole
  faults_one e at r ys p o = rw (own_only e r p, faults_none r (at + r.size) ys o) (nothing_after at (own_fault home r))

-- what the records at their places have
pub has_places : (test : Record → Bool) (at : ℕ) (rs : List Record) → has test (places at rs) ≡ any_of test rs
unfolding has any_of places placed
has_places test at [] = refl
has_places test at (r ∷ rs) = rw (has_places test (at + r.size) rs) refl
