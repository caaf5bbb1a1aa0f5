-- A list with a piece in place of what stands at a spot: written piece by piece where there is room. Assumes nothing.
use mathlib.Core.Path.{◌≡◌, refl, sym, ◌∙◌, ap}
use mathlib.Core.List.{List, [], ◌++◌, append_assoc}
use Prim.Native.Nat.{ℕ, ◌+◌, ◌≤◌, ◌<◌}
use native.Mathlib.Nat.{zero-add}
use native.Mathlib.Omega.{arith}
use borrow.Author.Tests.{lt-ltb, le-ltb}
use lib.ListN.{length, take, drop, length-append, length-drop}
use lib.Seq.{length-take-le}
use Rattle.std.specs.Prelude.{Ok, Err}
use Rattle.words.specs.Said.{left}
use Rattle.words.specs.Refusal.{refusal_number, refusal_value, values_in, refusal_says, says_by}
use Rattle.words.specs.declared.refusal.Refusal.TheVariants.{OutputTooShort}
use Rattle.words.specs.Writing.{over}
use Rattle.words.proofs.Written.{over_none, over_start, over_next}
use Rattle.entry.specs.declared.planning.Plan.{Plan}
use Rattle.edit.specs.Editing.{room_says}
use Rattle.edit.specs.Writing.{splice, Fits, Writes}

-- a list with a piece in place of what stands at a spot
module _ {list : List ℕ} {plan : Plan} (fits : Fits list plan) (out piece : List ℕ) (sized : length piece ≡ plan.size) where
  abbrev at : ℕ
  at = plan.spot.at

  abbrev end : ℕ
  end = plan.spot.at + plan.spot.size

  abbrev m : ℕ
  m = plan.size

  abbrev n : ℕ
  n = plan.total

  length_is : length (splice list plan.spot piece) ≡ n
  unfolding splice
  length_is =
      omega (arith, fits.inside, fits.long, sized, length-append (take at list) (piece ++ drop end list), length-append piece (drop end list), length-take-le at list (omega (arith, fits.inside)), length-drop end list)

  pub no_room : length out < n → Writes (splice list plan.spot piece) out (Err OutputTooShort) out
  unfolding room_says left says_by refusal_says refusal_number refusal_value values_in
  no_room h = record { answer = rw (length_is, lt-ltb (length out) n h) refl; out_after = rw (length_is, lt-ltb (length out) n h) refl }

  -- written piece by piece
  piecewise : n ≤ length out → over (at + m) (drop end list) (over at piece (over 0 (take at list) out)) ≡ over 0 (splice list plan.spot piece) out
  unfolding splice
  piecewise h =
      let a : length (take at list) ≡ at = length-take-le at list (omega (arith, fits.inside)) in
      let b : length (take at list ++ piece) ≡ at + m = length-append (take at list) piece ∙ rw (a, sized) refl in
      let first : over at piece (over 0 (take at list) out) ≡ over 0 (take at list ++ piece) out =
      ap (λ (i : ℕ). over i piece (over 0 (take at list) out)) (sym (zero-add at)) ∙ over_next 0 at (take at list) piece out a (omega (arith, fits.inside, fits.long))
      in
      ap (over (at + m) (drop end list)) first
      ∙ ap (λ (i : ℕ). over i (drop end list) (over 0 (take at list ++ piece) out)) (sym (zero-add (at + m)))
      ∙ over_next 0 (at + m) (take at list ++ piece) (drop end list) out b (omega (arith, fits.inside, fits.long))
      ∙ ap (λ (xs : List ℕ). over 0 xs out) (append_assoc (take at list) piece (drop end list))

  pub room : n ≤ length out → {after : List ℕ} → after ≡ over (at + m) (drop end list) (over at piece (over 0 (take at list) out)) → Writes (splice list plan.spot piece) out (Ok n) after
  unfolding room_says left says_by
  room h q = record {
    answer = rw (length_is, le-ltb (length out) n h) refl;
    out_after = rw (length_is, le-ltb (length out) n h) (q ∙ piecewise h ∙ over_start (splice list plan.spot piece) out);
  }

-- and with nothing in its place
module _ {list : List ℕ} {plan : Plan} (fits : Fits list plan) (nothing : plan.size ≡ 0) (out : List ℕ) where
  pub room_without : plan.total ≤ length out → {after : List ℕ} → after ≡ over (plan.spot.at + plan.size) (drop (plan.spot.at + plan.spot.size) list) (over 0 (take plan.spot.at list) out) → Writes (splice list plan.spot []) out (Ok plan.total) after
  room_without h q =
      let at = plan.spot.at in
      let end = plan.spot.at + plan.spot.size in
      room fits out [] (sym nothing) h (q ∙ ap (over (at + plan.size) (drop end list)) (sym (over_none at (over 0 (take at list) out))))
