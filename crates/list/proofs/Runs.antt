-- A loop over the walk makes the check and passes through the list's records. What is said of the rest of the list is what is said
-- of the whole, and what is gathered from the rest is what is gathered from the whole; a step says how that goes on.
-- Assumes nothing.
use Rattle.std.specs.Prelude.{if◌then◌else◌, Option, None, Some, Ok, Err}
use mathlib.Core.Path.{◌≡◌, refl, sym, ◌∙◌}
use mathlib.Core.List.{List, [], ◌∷◌, foldl}
use mathlib.Core.Bool.{Bool, true, false, cond, not, ◌||◌, ◌&&◌, or-false}
use Prim.Native.Nat.{ℕ, zero, suc, ◌+◌, ◌-◌, ◌≤◌, ◌<◌}
use native.Mathlib.Omega.{arith}
use borrow.Author.Tests.{leb-true, leb-false, ne_eqb}
use lib.Bits.{bit_or}
use lib.Dec.{eqb, ltb, leb}
use lib.ListN.{length, drop, length-drop, drop_of_length-le}
use lib.Seq.{drop-drop}
use Rattle.words.specs.Test.{any_of}
use Rattle.words.specs.Bit.{bit}
use Rattle.words.specs.Said.{Said, done, refused, and_then}
use Rattle.words.specs.Refusal.{number_of, refusal_number, refusal_value, values_in, refusal_says}
use Rattle.words.specs.declared.refusal.Fault.{Fault}
use Rattle.words.specs.declared.refusal.Fault.TheVariants.{TooLong, NoDefaultRealm}
use Rattle.words.specs.declared.refusal.Refusal.{Refusal}
use Rattle.words.specs.declared.refusal.Refusal.TheVariants.{Faulty}
use Rattle.records.specs.Reading.{Read, read_of, when_whole}
use Rattle.records.specs.declared.records.Record.{Record}
use Rattle.records.proofs.Tails.{within_tail, empty}
use Rattle.list.specs.Fault.{begins, fault, Seen, end_fault}
use Rattle.list.specs.Walking.{Step, mark_of, seen_of, start_of, walk_after, refused_or, heard, step_of, Steps}
use Rattle.list.specs.Checking.{Found, found, cut_from, cut, Placed, placed, wholes, records, refused_at, passed, faults_after, has, seen_in, check_says}
use Rattle.list.specs.declared.walk.Walk.{Walk}
use Rattle.list.proofs.Marks.{of, joined, marked}
use Rattle.list.proofs.Determined.{step_is}

-- what was seen, and what the records to come have
seeing : Seen → List Placed → Seen
seeing s rs = joined s (seen_in rs)

seeing_none : (s : Seen) → seeing s [] ≡ s
unfolding seeing joined seen_in has any_of
seeing_none s = simp or-false

one_more : (a t h : Bool) → (a || cond t true h) ≡ ((a || t) || h)
one_more true t h = refl
one_more false true h = refl
one_more false false h = refl

seeing_more : (marks at : ℕ) (r : Record) (rs : List Placed) → seeing (seen_of marks) (placed at r ∷ rs) ≡ seeing (seen_of (bit_or marks (mark_of r))) rs
unfolding seeing joined of seen_in has any_of placed
seeing_more marks at r rs = rw (marked marks r) (simp one_more)

wholes_whole : (at : ℕ) (r : Record) (fs : List Found) → wholes (found at (Ok (Some r)) ∷ fs) ≡ placed at r ∷ wholes fs
unfolding wholes when_whole found placed
wholes_whole at r fs = refl

-- the list from the walk's place on, by at most n records
rest : ℕ → Walk → List ℕ → List Found
rest n w l = cut_from n w.at (drop w.at l)

-- what is said of it
rest_says : Walk → List ℕ → List Found → Said
rest_says w l fs =
    if ltb 4096 (length l) then refused 10 (0 ∷ []) else
    if eqb w.at 0 && not (begins l) then refused 11 (0 ∷ []) else
    and_then (faults_after w.home w.earlier fs) (refused_at (length l) (end_fault (seeing (seen_of w.marks) (wholes fs))))

-- a step to a record r and the walk v
record Onward (n : ℕ) (w : Walk) (l : List ℕ) (r : Record) (v : Walk) : Type 0 where
  fuel : ℕ
  enough : length l - v.at ≤ fuel
  some : 0 < r.size
  moved : v.at ≡ w.at + r.size
  inside : w.at + r.size ≤ length l
  cuts : rest n w l ≡ found w.at (Ok (Some r)) ∷ rest fuel v l
  says : rest_says w l (rest n w l) ≡ rest_says v l (rest fuel v l)

record Over (n : ℕ) (w : Walk) (l : List ℕ) : Type 0 where
  cuts : rest n w l ≡ []
  says : rest_says w l (rest n w l) ≡ done []

Turn : ℕ → Walk → List ℕ → Step → Type 0
Turn n w l (Ok None) = Over n w l
Turn n w l (Ok (Some (r, v))) = Onward n w l r v
Turn n w l (Err refusal) = rest_says w l (rest n w l) ≡ refusal_says refusal

rest_none : (n : ℕ) (w : Walk) (l : List ℕ) → length l ≤ w.at → rest n w l ≡ []
unfolding rest cut_from
rest_none n w l h = rw (drop_of_length-le l h) (go n)
  where
    go : (n : ℕ) → cut_from n w.at [] ≡ []
    go zero = refl
    go (suc n) = refl

some_left : (w : Walk) (l : List ℕ) → w.at < length l → eqb (length (drop w.at l)) 0 ≡ false
some_left w l h = ne_eqb (length (drop w.at l)) 0 (λ q. omega (arith, length-drop w.at l))

module _ (w : Walk) (l : List ℕ) (short : ltb 4096 (length l) ≡ false) (begun : (eqb w.at 0 && not (begins l)) ≡ false) where
  says_none : rest_says w l [] ≡ refused_at (length l) (end_fault (seen_of w.marks))
  unfolding rest_says faults_after and_then wholes
  says_none = simp (short, begun, seeing_none)

  at_end : (n : ℕ) → length l ≤ w.at → Turn n w l (refused_or (end_fault (seen_of w.marks)) (length l) (Ok None))
  unfolding Turn refused_or refused_at refusal_says refusal_number refusal_value values_in
  at_end n h = go (end_fault (seen_of w.marks)) refl
    where
      go : (o : Option Fault) → end_fault (seen_of w.marks) ≡ o → Turn n w l (refused_or o (length l) (Ok None))
      go None q = record { cuts = rest_none n w l h; says = rw (rest_none n w l h, says_none) (simp q) }
      go (Some fault) q = rw (rest_none n w l h, says_none) (simp q)

  -- a record that is refused is where the rest is cut
  module _ (n : ℕ) (f : Found) (fs : List Found) (cuts : rest n w l ≡ f ∷ fs) where
    refused_here : (wrong : Fault) → fault w.home w.earlier f.read ≡ Some wrong → rest_says w l (rest n w l) ≡ refusal_says (Faulty wrong f.at)
    unfolding rest_says faults_after refused_at and_then refusal_says refusal_number refusal_value values_in
    refused_here wrong q = rw cuts (simp (short, begun, q))

  module _ (m : ℕ) (r : Record) (read : read_of (drop w.at l) ≡ Ok (Some r)) where
    next : Walk
    next = walk_after w r

    here : w.at < length l
    here = omega (arith, length-drop w.at l, within_tail (drop w.at l) r read)

    cuts_whole : rest (suc m) w l ≡ found w.at (Ok (Some r)) ∷ rest m next l
    unfolding rest cut_from when_whole next walk_after
    cuts_whole = simp (some_left w l here, read, drop-drop)

    not_begin : eqb next.at 0 ≡ false
    unfolding next walk_after
    not_begin = ne_eqb (w.at + r.size) 0 (λ q. omega (arith, within_tail (drop w.at l) r read))

    says_next : fault w.home w.earlier (Ok (Some r)) ≡ None → rest_says w l (rest (suc m) w l) ≡ rest_says next l (rest m next l)
    unfolding rest_says faults_after refused_at and_then passed when_whole found next walk_after
    says_next q = rw cuts_whole (simp (short, begun, not_begin, q, wholes_whole, seeing_more))

    passes : length l - w.at ≤ suc m → fault w.home w.earlier (Ok (Some r)) ≡ None → Onward (suc m) w l r (walk_after w r)
    unfolding next walk_after
    passes h q =
        let s = within_tail (drop w.at l) r read in
        record {
          fuel = m;
          enough = omega (arith, length-drop w.at l);
          some = s.0;
          moved = refl;
          inside = omega (arith, length-drop w.at l);
          cuts = cuts_whole;
          says = says_next q;
        }

    whole_turn : length l - w.at ≤ suc m → Turn (suc m) w l (heard w (Ok (Some r)))
    unfolding Turn heard refused_or when_whole found
    whole_turn h = go (fault w.home w.earlier (Ok (Some r))) refl
      where
        go : (o : Option Fault) → fault w.home w.earlier (Ok (Some r)) ≡ o → Turn (suc m) w l (refused_or o w.at (Ok (Some (r, walk_after w r))))
        go None q = passes h q
        go (Some wrong) q = refused_here (suc m) (found w.at (Ok (Some r))) (rest m next l) cuts_whole wrong q

  heard_turn : (n : ℕ) → length l - w.at ≤ n → w.at < length l → (read : Read) → read_of (drop w.at l) ≡ read → Turn n w l (heard w read)
  unfolding Turn heard refused_or rest cut_from when_whole fault found
  heard_turn zero h k read q = absurd (omega arith)
  heard_turn (suc m) h k (Ok None) q = absurd (omega (arith, length-drop w.at l, empty (drop w.at l) q))
  heard_turn (suc m) h k (Ok (Some r)) q = whole_turn m r q h
  heard_turn (suc m) h k (Err wrong) q = refused_here (suc m) (found w.at (Err wrong)) [] (simp (some_left w l k, q)) wrong refl

-- what a step does, whatever it gives
turn : (n : ℕ) (w : Walk) (l : List ℕ) → length l - w.at ≤ n → Turn n w l (step_of w l)
unfolding Turn step_of rest_says refusal_says refusal_number number_of refusal_value values_in
turn n w l h = go (ltb 4096 (length l)) (eqb w.at 0 && not (begins l)) (leb (length l) w.at) refl refl refl
  where
    go : (a b c : Bool) → ltb 4096 (length l) ≡ a → (eqb w.at 0 && not (begins l)) ≡ b → leb (length l) w.at ≡ c
        → Turn n w l (if a then Err (Faulty TooLong 0) else if b then Err (Faulty NoDefaultRealm 0) else if c then refused_or (end_fault (seen_of w.marks)) (length l) (Ok None) else heard w (read_of (drop w.at l)))
    go true b c p q k = simp p
    go false true c p q k = simp (p, q)
    go false false true p q k = at_end w l p q n (leb-true (length l) w.at k)
    go false false false p q k = heard_turn w l p q n h (leb-false (length l) w.at k) (read_of (drop w.at l)) refl

-- a loop over the walk that has come to w and gathered a, from `first`, by f
pub record Leads {A : Type 0} (f : A → Placed → A) (l : List ℕ) (first a : A) (w : Walk) : Type 0 where
  fuel : ℕ
  enough : length l - w.at ≤ fuel
  says : check_says l ≡ rest_says w l (rest fuel w l)
  gathers : foldl f first (records l) ≡ foldl f a (wholes (rest fuel w l))

-- a loop that gathers nothing
abbrev pub keep : Unit {0} → Placed → Unit {0}
keep a p = a

pub starts : {A : Type 0} (f : A → Placed → A) (l : List ℕ) (a : A) → Leads f l a a (start_of l)
unfolding check_says rest_says rest records cut start_of seeing joined seen_of bit
starts f l a = record { fuel = length l; enough = omega arith; says = refl; gathers = refl }

module _ {A : Type 0} {f : A → Placed → A} {l : List ℕ} {first a : A} {w : Walk} {s : Step} (stepped : Steps w l s) (so_far : Leads f l first a w) where
  turned : Turn so_far.fuel w l s
  turned = rw (step_is stepped) (turn so_far.fuel w l so_far.enough)

  module _ {r : Record} {v : Walk} (q : s ≡ Ok (Some (r, v))) where
    onward : Onward so_far.fuel w l r v
    unfolding Turn
    onward = rw q at turned

    pub goes : Leads f l first (f a (placed w.at r)) v
    goes =
        let t = onward in
        record {
          fuel = t.fuel;
          enough = t.enough;
          says = so_far.says ∙ t.says;
          gathers = so_far.gathers ∙ rw (t.cuts, wholes_whole) refl;
        }

    -- the record lies within the list
    pub inside : w.at + r.size ≤ length l
    inside = onward.inside

    pub falls : length l - v.at < length l - w.at
    falls = let t = onward in omega (arith, t.moved, t.some, t.inside)

  pub refuses : {refusal : Refusal} → s ≡ Err refusal → check_says l ≡ refusal_says refusal
  unfolding Turn
  refuses q = so_far.says ∙ rw q at turned

  over : s ≡ Ok None → Over so_far.fuel w l
  unfolding Turn
  over q = rw q at turned

  pub passes_all : s ≡ Ok None → check_says l ≡ done []
  passes_all q = so_far.says ∙ (over q).says

  pub gathers_all : s ≡ Ok None → a ≡ foldl f first (records l)
  unfolding wholes
  gathers_all q = sym (so_far.gathers ∙ rw (over q).cuts refl)
