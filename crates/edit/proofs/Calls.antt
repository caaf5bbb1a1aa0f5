-- One call after the other: what an edit that is not refused leaves, and what a second edit makes of it. Assumes nothing.
use Rattle.std.specs.Prelude.{if◌then◌else◌, Result, Ok}
use mathlib.Core.Path.{◌≡◌, refl, sym, ◌∙◌, ap}
use mathlib.Core.List.{List, [], ◌∷◌}
use mathlib.Core.Bool.{Bool, true, false}
use Prim.Native.Nat.{ℕ, ◌≤◌}
use native.Mathlib.Omega.{arith}
use borrow.Author.Tests.{le-ltb}
use lib.Dec.{ltb}
use lib.ListN.{length, take, drop}
use lib.Seq.{take_at}
use Rattle.words.specs.Refusal.{says_by, number_says}
use Rattle.words.specs.declared.refusal.Refusal.{Refusal}
use Rattle.words.proofs.Refusals.{same_number}
use Rattle.words.specs.Said.{Said, done, refused, and_then, left}
use Rattle.words.specs.Number.{Bytes}
use Rattle.list.specs.Checking.{check_says}
use Rattle.entry.specs.NewList.{putting, dropping, has_entry}
use Rattle.entry.specs.Plan.{put_judged, drop_judged}
use Rattle.entry.specs.Spot.{InWidth}
use Rattle.entry.specs.declared.entries.Entry.{Entry}
use Rattle.entry.proofs.Ladders.{past}
use Rattle.entry.proofs.Planned.{Passes, put_passes, drop_passes}
use Rattle.edit.specs.Editing.{room_says, put_says, drop_says, Puts, Drops}
use Rattle.edit.proofs.Again.{put_has, put_twice, drop_put}

-- an edit that is not refused, and the new list is what was written
pub record Done (list : List ℕ) (entry : Entry) (new : List ℕ) (n : ℕ) (after : List ℕ) : Type 0 where
  pub passes : Passes list entry new
  pub size : n ≡ length new
  pub written : take n after ≡ new

has_room : (new out : List ℕ) (n : ℕ) → done (n ∷ []) ≡ room_says new out → n ≡ length new
unfolding room_says
has_room new out n = go (ltb (length out) (length new))
  where
    go : (b : Bool) → done (n ∷ []) ≡ (if b then refused 21 [] else done (length new ∷ [])) → n ≡ length new
    go true q = let z : ◌≡◌ {A = ℕ} 0 1 = cc in absurd (omega arith)
    go false q = cc

module _ (list : List ℕ) (entry : Entry) (out : List ℕ) (n : ℕ) (after : List ℕ) where
  -- from what was judged, and the room
  ended : (new : List ℕ) (judged : Said) → ((v : List ℕ) → judged ≡ done v → Passes list entry new)
      → done (n ∷ []) ≡ and_then judged (room_says new out) → after ≡ left (and_then judged (room_says new out)) new out → Done list entry new n after
  unfolding left
  ended new judged passed q e =
      let p = past judged (room_says new out) (n ∷ []) q in
      let m = has_room new out n p.1.1 in
      record {
        passes = passed p.0 p.1.0;
        size = m;
        written = ap (take n) (e ∙ rw (← q) refl) ∙ take_at new (drop (length new) out) n (sym m);
      }

  pub put_done : Puts list entry out (Ok n) after → Done list entry (putting list entry) n after
  unfolding says_by put_says
  put_done p = ended (putting list entry) (put_judged list entry) (put_passes list entry) p.answer p.out_after

  pub drop_done : Drops list entry out (Ok n) after → Done list entry (dropping list entry) n after
  unfolding says_by drop_says
  drop_done p = ended (dropping list entry) (drop_judged list entry) (drop_passes list entry) p.answer p.out_after

-- an edit that is not refused leaves a list that passes
pub put_leaves_fine : (list : List ℕ) (entry : Entry) (out : List ℕ) (n : ℕ) (after : List ℕ) → Puts list entry out (Ok n) after → check_says (take n after) ≡ done []
put_leaves_fine list entry out n after p = let d = put_done list entry out n after p in rw d.written d.passes.fine

pub drop_leaves_fine : (list : List ℕ) (entry : Entry) (out : List ℕ) (n : ℕ) (after : List ℕ) → Drops list entry out (Ok n) after → check_says (take n after) ≡ done []
drop_leaves_fine list entry out n after p = let d = drop_done list entry out n after p in rw d.written d.passes.fine

-- a list written where it has room
roomy : (new out : List ℕ) → length new ≤ length out → room_says new out ≡ done (length new ∷ [])
unfolding room_says
roomy new out h = rw (le-ltb (length out) (length new) h) refl

told : (new out : List ℕ) (r : Result ℕ Refusal) (after : List ℕ) (says : Said) → says ≡ done (length new ∷ []) → number_says r ≡ says → after ≡ left says new out
    → (r ≡ Ok (length new)) × (take (length new) after ≡ new)
unfolding says_by left
told new out r after says q a e =
    (same_number r (Ok (length new)) (a ∙ q) refl, ap (take (length new)) (e ∙ rw q refl) ∙ take_at new (drop (length new) out) (length new) refl)

-- a second edit of what a first one left
module _ (list : List ℕ) (entry : Entry) (bytes : Bytes list) (numbers : InWidth entry) {out : List ℕ} {n : ℕ} {after : List ℕ} (first : Puts list entry out (Ok n) after) where
  d : Done list entry (putting list entry) n after
  d = put_done list entry out n after first

  same : putting (putting list entry) entry ≡ putting list entry
  same = put_twice list entry bytes numbers d.passes.is_entry_kind d.passes.old

  back : has_entry list entry ≡ false → dropping (putting list entry) entry ≡ list
  back new = drop_put list entry bytes numbers d.passes.is_entry_kind d.passes.old new

  put_again_says : (out' : List ℕ) → length (putting list entry) ≤ length out' → put_says (putting list entry) entry out' ≡ done (length (putting list entry) ∷ [])
  unfolding put_says put_judged and_then
  put_again_says out' h = rw (same, d.passes.fine, d.passes.is_entry_kind) (roomy (putting list entry) out' h)

  drop_back_says : (out' : List ℕ) → has_entry list entry ≡ false → length list ≤ length out' → drop_says (putting list entry) entry out' ≡ done (length list ∷ [])
  unfolding drop_says drop_judged and_then
  drop_back_says out' new h =
      rw (d.passes.fine, d.passes.is_entry_kind, put_has list entry bytes numbers d.passes.is_entry_kind d.passes.old, back new, d.passes.old)
      (roomy list out' h)

  module _ {out' : List ℕ} {r' : Result ℕ Refusal} {after' : List ℕ} where
    -- to put it again changes nothing
    pub put_twice_same : Puts (take n after) entry out' r' after' → n ≤ length out' → (r' ≡ Ok n) × (take n after' ≡ take n after)
    put_twice_same p h =
        let p' = rw d.written at p in
        rw (d.written, d.size)
        (told (putting list entry) out' r' after' (put_says (putting list entry) entry out') (put_again_says out' (rw d.size at h)) p'.answer (rw same at p'.out_after))

    -- to drop what was not there before gives the old list back
    pub drop_gives_back : has_entry list entry ≡ false → Drops (take n after) entry out' r' after' → length list ≤ length out'
        → (r' ≡ Ok (length list)) × (take (length list) after' ≡ list)
    drop_gives_back new p h =
        let p' = rw d.written at p in
        told list out' r' after' (drop_says (putting list entry) entry out') (drop_back_says out' new h) p'.answer (rw (back new) at p'.out_after)
