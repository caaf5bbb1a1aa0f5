-- What the check promises of each record of a list that passes. Assumes nothing.
use Rattle.std.specs.Prelude.{if◌then◌else◌, Option, None, Some, Ok, Err}
use mathlib.Core.Path.{◌≡◌, refl}
use mathlib.Core.List.{List, [], ◌∷◌}
use mathlib.Core.Bool.{Bool, true, false, not}
use Prim.Native.Nat.{ℕ, zero, suc, ◌+◌}
use native.Mathlib.Omega.{arith}
use borrow.Author.Tests.{eqb-true, ne_eqb}
use lib.Dec.{eqb, ltb}
use lib.ListN.{length, get_or, drop}
use Rattle.words.specs.Said.{Said, done, refused, and_then}
use Rattle.words.specs.Realm.{unknown_realm, realm_at, same_realm}
use Rattle.words.specs.declared.realm.Realm.{Realm}
use Rattle.words.specs.declared.refusal.Fault.{Fault}
use Rattle.words.specs.declared.refusal.Fault.TheVariants.{RightsAbove63, OutOfOrder, ForbiddenRealm}
use Rattle.words.proofs.Tests.{or_left, Each}
use Rattle.records.specs.Kind.{body, bodies, body_of}
use Rattle.records.specs.Reading.{Read, record_of, read_of, when_whole}
use Rattle.records.specs.Standing.{rises, is_forbidden}
use Rattle.records.specs.declared.records.Record.{Record}
use Rattle.records.proofs.Tails.{Is, is, empty}
use Rattle.list.specs.Fault.{begins, no_record, fault, end_fault}
use Rattle.list.specs.Checking.{found, cut_from, cut, Placed, placed, wholes, records, refused_at, passed, faults_after, seen_in, check_says}

-- refusals 14 and 16 do not concern the record
pub record Sound (home : Realm) (r : Record) : Type 0 where
  pub rights : ltb 63 r.rights ≡ false
  pub realm : is_forbidden home r ≡ false

abbrev pub IsSound : Realm → Placed → Type 0
IsSound home p = Sound home p.it

pub no_refusal : (place : ℕ) (wrong : Option Fault) (rest : Said) (v : List ℕ) → and_then (refused_at place wrong) rest ≡ done v → (wrong ≡ None) × (rest ≡ done v)
unfolding refused_at and_then
no_refusal place None rest v p = (refl, p)
no_refusal place (Some fault) rest v p = cc

sound : (home : Realm) (earlier r : Record) → fault home earlier (Ok (Some r)) ≡ None → Sound home r × (rises earlier r ≡ true)
unfolding fault
sound home earlier r = go (ltb 63 r.rights) (rises earlier r) (is_forbidden home r) refl refl refl
  where
    go : (a b c : Bool) → ltb 63 r.rights ≡ a → rises earlier r ≡ b → is_forbidden home r ≡ c
        → (if a then Some RightsAbove63 else if not b then Some OutOfOrder else if c then Some ForbiddenRealm else None) ≡ None
        → Sound home r × (rises earlier r ≡ true)
    go true b c p o q h = cc
    go false false c p o q h = cc
    go false true true p o q h = cc
    go false true false p o q h = (record { rights = p; realm = q }, o)

-- a record may stand after an earlier one, and was read from some bytes
pub record Follows (home : Realm) (earlier r : Record) : Type 0 where
  pub sound : Sound home r
  pub order : rises earlier r ≡ true
  pub tail : List ℕ
  pub read : Is tail r

-- each of some records follows the one before it
unfoldable pub Chain : Realm → Record → List Placed → Type 0
Chain home earlier [] = Unit {0}
Chain home earlier (p ∷ ps) = Follows home earlier p.it × Chain home p.it ps

chained : (home : Realm) (earlier : Record) (fuel at : ℕ) (t v : List ℕ) → faults_after home earlier (cut_from fuel at t) ≡ done v
    → Chain home earlier (wholes (cut_from fuel at t))
unfolding cut_from faults_after wholes when_whole Chain found placed passed fault
chained home earlier zero at t v = λ q. tt
chained home earlier (suc fuel) at t v = go (λ e at u. chained home e fuel at u v) (eqb (length t) 0) (read_of t) refl
  where
    go : ((e : Record) (at : ℕ) (u : List ℕ) → faults_after home e (cut_from fuel at u) ≡ done v → Chain home e (wholes (cut_from fuel at u)))
        → (b : Bool) (read : Read) → read_of t ≡ read
        → faults_after home earlier (if b then [] else found at read ∷ when_whole read (λ r. cut_from fuel (at + r.size) (drop r.size t)) []) ≡ done v
        → Chain home earlier (wholes (if b then [] else found at read ∷ when_whole read (λ r. cut_from fuel (at + r.size) (drop r.size t)) []))
    go ih true read e q = tt
    go ih false (Ok None) e q = tt
    go ih false (Err f) e q = tt
    go ih false (Ok (Some r)) e q =
        let n = no_refusal at (fault home earlier (Ok (Some r))) (faults_after home r (cut_from fuel (at + r.size) (drop r.size t))) v q in
        let s = sound home earlier r n.0 in
        (record { sound = s.0; order = s.1; tail = t; read = is t r e }, ih r (at + r.size) (drop r.size t) n.1)

no_last_refusal : (place : ℕ) (wrong : Option Fault) (v : List ℕ) → refused_at place wrong ≡ done v → wrong ≡ None
unfolding refused_at
no_last_refusal place None v p = refl
no_last_refusal place (Some fault) v p = cc

-- a list that passes: no refusal of it is earned
pub record Passing (list : List ℕ) : Type 0 where
  pub short : ltb 4096 (length list) ≡ false
  pub begun : begins list ≡ true
  pub values : List ℕ
  pub faultless : faults_after (realm_at 1 list) no_record (cut list) ≡ done values
  pub ended : end_fault (seen_in (records list)) ≡ None

pub passes : (list : List ℕ) → check_says list ≡ done [] → Passing list
unfolding check_says and_then
passes list = go (ltb 4096 (length list)) (begins list) (faults_after (realm_at 1 list) no_record (cut list)) refl refl refl
  where
    go : (a b : Bool) (said : Said) → ltb 4096 (length list) ≡ a → begins list ≡ b → faults_after (realm_at 1 list) no_record (cut list) ≡ said
        → (if a then refused 10 (0 ∷ []) else if not b then refused 11 (0 ∷ []) else and_then said (refused_at (length list) (end_fault (seen_in (records list))))) ≡ done []
        → Passing list
    go true b said h k p q = cc
    go false false said h k p q = cc
    go false true (done v) h k p q = record {
      short = h;
      begun = k;
      values = v;
      faultless = p;
      ended = no_last_refusal (length list) (end_fault (seen_in (records list))) [] q;
    }
    go false true (refused number values) h k p q = cc

-- a check that is done answers nothing
end_alone : (said : Said) (place : ℕ) (wrong : Option Fault) (v : List ℕ)
    → and_then said (refused_at place wrong) ≡ done v → and_then said (refused_at place wrong) ≡ done []
unfolding and_then refused_at
end_alone (refused n values) place wrong v q = cc
end_alone (done values) place None v q = refl
end_alone (done values) place (Some fault) v q = cc

pub no_values : (list v : List ℕ) → check_says list ≡ done v → check_says list ≡ done []
unfolding check_says
no_values list v =
    go (ltb 4096 (length list)) (begins list) (and_then (faults_after (realm_at 1 list) no_record (cut list)) (refused_at (length list) (end_fault (seen_in (records list)))))
    (end_alone (faults_after (realm_at 1 list) no_record (cut list)) (length list) (end_fault (seen_in (records list))) v)
  where
    go : (a b : Bool) (rest : Said) → (rest ≡ done v → rest ≡ done []) → (if a then refused 10 (0 ∷ []) else if not b then refused 11 (0 ∷ []) else rest) ≡ done v
        → (if a then refused 10 (0 ∷ []) else if not b then refused 11 (0 ∷ []) else rest) ≡ done []
    go true b rest ends q = cc
    go false false rest ends q = cc
    go false true rest ends q = ends q

pub all_follow : (list : List ℕ) → check_says list ≡ done [] → Chain (realm_at 1 list) no_record (records list)
unfolding records cut
all_follow list q = let p = passes list q in chained (realm_at 1 list) no_record (length list) 0 list p.values p.faultless

each_sound : (home : Realm) (earlier : Record) (ps : List Placed) → Chain home earlier ps → Each (IsSound home) ps
unfolding Chain Each
each_sound home earlier [] c = tt
each_sound home earlier (p ∷ ps) c = (c.0.sound, each_sound home p.it ps c.1)

pub all_sound : (list : List ℕ) → check_says list ≡ done [] → Each (IsSound (realm_at 1 list)) (records list)
all_sound list q = each_sound (realm_at 1 list) no_record (records list) (all_follow list q)

-- a record of kind 1 says the default realm
pub named : (t : List ℕ) (r : Record) → get_or t 0 0 ≡ 1 → Is t r → r.realm ≡ realm_at 1 t
unfolding record_of body_of bodies body
named t r k i = rw (← i.same, k) refl

-- the record of the default realm is sound too
module _ (x : ℕ) (xs : List ℕ) (q : check_says (x ∷ xs) ≡ done []) where
  list : List ℕ
  list = x ∷ xs

  first_kind : get_or list 0 0 ≡ 1
  unfolding begins list
  first_kind = eqb-true x 1 (passes (x ∷ xs) q).begun

  head_passes : fault (realm_at 1 list) no_record (read_of list) ≡ None
  unfolding cut cut_from faults_after found list
  head_passes =
      let p = passes (x ∷ xs) q in
      let some = ne_eqb (length (x ∷ xs)) 0 (λ e. omega arith) in
      (no_refusal 0 (fault (realm_at 1 list) no_record (read_of list)) (faults_after (realm_at 1 list) (passed (read_of list)) (when_whole (read_of list) (λ r. cut_from (length xs) (0 + r.size) (drop r.size list)) [])) p.values (rw some at p.faultless)).0

  of_head : (read : Read) → read_of list ≡ read → fault (realm_at 1 list) no_record read ≡ None → same_realm (realm_at 1 list) unknown_realm ≡ false
  unfolding fault is_forbidden list
  of_head (Ok None) e h = absurd (omega (arith, empty list e))
  of_head (Err f) e h = cc
  of_head (Ok (Some r)) e h = rw (← named list r first_kind (is list r e)) (or_left _ _ (sound (realm_at 1 list) no_record r h).0.realm)

-- the default realm of a list that passes is known
pub default_known : (list : List ℕ) → check_says list ≡ done [] → same_realm (realm_at 1 list) unknown_realm ≡ false
unfolding begins list
default_known [] q = let b = eqb-true 0 1 (passes [] q).begun in absurd (omega arith)
default_known (x ∷ xs) q = of_head x xs q (read_of (x ∷ xs)) refl (head_passes x xs q)
