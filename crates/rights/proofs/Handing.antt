-- What is decided by value is handed back with its part of the list. Assumes nothing.
use mathlib.Core.Path.{◌≡◌, ap}
use mathlib.Core.List.{List}
use Prim.Native.Nat.{ℕ, ◌+◌}
use denote.Ref.{Bor}
use Rattle.std.specs.Prelude.{Result, Ok, Err}
use Rattle.words.specs.Number.{part}
use Rattle.words.specs.Refusal.{says_by}
use Rattle.words.specs.declared.refusal.Refusal.{Refusal}
use Rattle.evaluate.specs.Evaluation.{Decided, bare, evaluated_as}
use Rattle.evaluate.specs.declared.evaluation.Found.{Found}
use Rattle.rights.specs.Deciding.{Finds, Decides}

module _ {d : Decided} {r : Result Found Refusal} (finds : Finds d r) where
  module _ {refusal : Refusal} (q : r ≡ Err refusal) where
    nowhere : 0 ≡ d.start
    unfolding evaluated_as bare
    nowhere = ap (λ (x : Decided). x.start) (rw q at finds.answer)

    nothing : 0 ≡ d.size
    unfolding evaluated_as bare
    nothing = ap (λ (x : Decided). x.size) (rw q at finds.answer)

    pub refused : (list : Bor (List ℕ)) (given : Bor (List ℕ)) → given.now ≡ part 0 0 list.now
        → given.ref_ptr ≡ (list.ref_ptr.0, 0 + list.ref_ptr.1) → Decides d list (record { answer = Err refusal; part = given })
    unfolding evaluated_as bare says_by
    refused list given bytes place = record {
      answer = ap (λ (x : Decided). x.says) (rw q at finds.answer);
      bytes = rw (← nowhere, ← nothing) bytes;
      place = rw (← nowhere) place;
    }

  module _ {found : Found} (q : r ≡ Ok found) where
    pub start_is : found.start ≡ d.start
    unfolding evaluated_as
    start_is = ap (λ (x : Decided). x.start) (rw q at finds.answer)

    pub size_is : found.size ≡ d.size
    unfolding evaluated_as
    size_is = ap (λ (x : Decided). x.size) (rw q at finds.answer)

    pub decides : (list : Bor (List ℕ)) (given : Bor (List ℕ)) → given.now ≡ part found.start found.size list.now
        → given.ref_ptr ≡ (list.ref_ptr.0, found.start + list.ref_ptr.1) → Decides d list (record { answer = Ok found.rights; part = given })
    unfolding evaluated_as says_by
    decides list given bytes place = record {
      answer = ap (λ (x : Decided). x.says) (rw q at finds.answer);
      bytes = rw (← start_is, ← size_is) bytes;
      place = rw (← start_is) place;
    }
