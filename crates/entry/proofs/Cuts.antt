-- Records spelled one after the other are cut apart again, and a list that passes is its records spelled. Assumes nothing.
use Rattle.std.specs.Prelude.{if◌then◌else◌, None, Some, Ok, Err}
use mathlib.Core.Path.{◌≡◌, refl, sym, ◌∙◌, ap}
use mathlib.Core.List.{List, [], ◌∷◌, ◌++◌, map}
use mathlib.Core.Bool.{Bool, true, false}
use Prim.Native.Nat.{ℕ, zero, suc, ◌+◌, ◌≤◌, ◌<◌}
use native.Mathlib.Omega.{arith}
use borrow.Author.Tests.{ne_eqb, eqb-true, eqb-false}
use lib.Dec.{eqb}
use lib.ListN.{length, drop, length-append, length-drop, take-append-drop}
use lib.Seq.{drop_at, get_or-drop}
use Rattle.words.specs.Said.{done}
use Rattle.words.specs.Number.{Bytes}
use Rattle.words.specs.Realm.{realm_at}
use Rattle.words.specs.declared.realm.Realm.{Realm}
use Rattle.words.proofs.Tests.{Each}
use Rattle.records.specs.Reading.{Read, read_of, when_whole}
use Rattle.list.specs.Fault.{no_record, fault}
use Rattle.list.specs.Checking.{Found, found, cut_from, cut, Placed, placed, wholes, records, passed, faults_after, check_says}
use Rattle.records.specs.declared.records.Record.{Record}
use Rattle.records.proofs.Bodies.{some_size}
use Rattle.records.proofs.Tails.{is, within_tail, empty}
use Rattle.list.proofs.Passed.{no_refusal, passes}
use Rattle.entry.specs.Spelling.{spelled, spell}
use Rattle.entry.specs.NewList.{records_in}
use Rattle.entry.proofs.Spelled.{Fitting, spelled_length, read_back, read_fits, spelled_as}

-- records at their places, and what is read there
unfoldable pub places : ℕ → List Record → List Placed
places at [] = []
places at (r ∷ rs) = placed at r ∷ places (at + r.size) rs

unfoldable pub finds : ℕ → List Record → List Found
finds at [] = []
finds at (r ∷ rs) = found at (Ok (Some r)) ∷ finds (at + r.size) rs

pub spelled_size : (r : Record) → Fitting r → length (spelled r) ≡ r.size
spelled_size r f = spelled_length r ∙ sym f.sized

pub sized_some : (r : Record) → Fitting r → 0 < r.size
sized_some r f = omega (arith, f.sized, some_size r.kind)

cut_from_lem : (n at : ℕ) (rs : List Record) → Each Fitting rs → length (spell rs) ≤ n → cut_from n at (spell rs) ≡ finds at rs
unfolding Each spell finds cut_from when_whole
cut_from_lem zero at [] f h = refl
cut_from_lem (suc n) at [] f h = refl
cut_from_lem zero at (r ∷ rs) f h = absurd (omega (arith, length-append (spelled r) (spell rs), spelled_size r f.0, sized_some r f.0))
cut_from_lem (suc n) at (r ∷ rs) f h =
    let l = length-append (spelled r) (spell rs) in
    let s = spelled_size r f.0 in
    let p = sized_some r f.0 in
    let z : length (spelled r ++ spell rs) ≡ 0 → ⊥ = λ q. omega arith in
    rw (ne_eqb (length (spelled r ++ spell rs)) 0 z, read_back r (spell rs) f.0, drop_at (spelled r) (spell rs) r.size s)
    (ap (λ (fs : List Found). found at (Ok (Some r)) ∷ fs) (cut_from_lem n (at + r.size) rs f.1 (omega arith)))

pub cut_spell : (rs : List Record) → Each Fitting rs → cut (spell rs) ≡ finds 0 rs
unfolding cut
cut_spell rs f = cut_from_lem (length (spell rs)) 0 rs f (omega arith)

wholes_finds : (at : ℕ) (rs : List Record) → wholes (finds at rs) ≡ places at rs
unfolding wholes finds places when_whole found
wholes_finds at [] = refl
wholes_finds at (r ∷ rs) = ap (λ (ps : List Placed). placed at r ∷ ps) (wholes_finds (at + r.size) rs)

pub records_spell : (rs : List Record) → Each Fitting rs → records (spell rs) ≡ places 0 rs
unfolding records
records_spell rs f = ap wholes (cut_spell rs f) ∙ wholes_finds 0 rs

map_places : (at : ℕ) (rs : List Record) → map (λ (p : Placed). p.it) (places at rs) ≡ rs
unfolding places placed
map_places at [] = refl
map_places at (r ∷ rs) = ap (λ (xs : List Record). r ∷ xs) (map_places (at + r.size) rs)

-- read again, the records are those that were spelled
pub read_again : (rs : List Record) → Each Fitting rs → records_in (spell rs) ≡ rs
unfolding records_in
read_again rs f = ap (map (λ (p : Placed). p.it)) (records_spell rs f) ∙ map_places 0 rs

no_bytes : (t : List ℕ) → length t ≡ 0 → [] ≡ t
no_bytes [] h = refl
no_bytes (x ∷ xs) h = absurd (omega arith)

-- a tail that is the records read from it
record Respelled (t : List ℕ) (rs : List Record) : Type 0 where
  same : spell rs ≡ t
  fit : Each Fitting rs

respelled : (home : Realm) (fuel at : ℕ) (earlier : Record) (t v : List ℕ) → Bytes t → length t ≤ fuel → faults_after home earlier (cut_from fuel at t) ≡ done v
    → Respelled t (map (λ (p : Placed). p.it) (wholes (cut_from fuel at t)))
unfolding cut_from faults_after wholes when_whole found placed passed fault Each spell
respelled home zero at earlier [] v ht h q = record { same = refl; fit = tt }
respelled home zero at earlier (x ∷ xs) v ht h q = absurd (omega arith)
respelled home (suc fuel) at earlier t v ht h q = go (λ at e u. respelled home fuel at e u v) (eqb (length t) 0) (read_of t) refl refl q
  where
    go : ((at : ℕ) (e : Record) (u : List ℕ) → Bytes u → length u ≤ fuel → faults_after home e (cut_from fuel at u) ≡ done v → Respelled u (map (λ (p : Placed). p.it) (wholes (cut_from fuel at u))))
        → (b : Bool) (read : Read) → eqb (length t) 0 ≡ b → read_of t ≡ read
        → faults_after home earlier (if b then [] else found at read ∷ when_whole read (λ r. cut_from fuel (at + r.size) (drop r.size t)) []) ≡ done v
        → Respelled t (map (λ (p : Placed). p.it) (wholes (if b then [] else found at read ∷ when_whole read (λ r. cut_from fuel (at + r.size) (drop r.size t)) [])))
    go ih true read z e q = record { same = no_bytes t (eqb-true (length t) 0 z); fit = tt }
    go ih false (Ok None) z e q = absurd (eqb-false (length t) 0 z (empty t e))
    go ih false (Err wrong) z e q = let n = no_refusal at (Some wrong) (faults_after home no_record []) v q in cc (n.0)
    go ih false (Ok (Some r)) z e q =
        let s = within_tail t r e in
        let n = no_refusal at (fault home earlier (Ok (Some r))) (faults_after home r (cut_from fuel (at + r.size) (drop r.size t))) v q in
        let rest = ih (at + r.size) r (drop r.size t) (λ i. rw get_or-drop (ht (r.size + i))) (omega (arith, length-drop r.size t)) n.1 in
        record {
          same = rw (spelled_as t ht r (is t r e), rest.same) (take-append-drop r.size t);
          fit = (read_fits t ht r (is t r e), rest.fit);
        }

module _ (list : List ℕ) (bytes : Bytes list) (passing : check_says list ≡ done []) where
  whole : Respelled list (records_in list)
  unfolding records_in records cut
  whole = let p = passes list passing in respelled (realm_at 1 list) (length list) 0 no_record list p.values bytes (omega arith) p.faultless

  -- a list that passes is its records spelled, and they fit
  pub spelled_whole : spell (records_in list) ≡ list
  spelled_whole = whole.same

  pub all_fit : Each Fitting (records_in list)
  all_fit = whole.fit
