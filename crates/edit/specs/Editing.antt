-- Editing a list: one entry put or dropped, the whole new list written to a second buffer.
use Rattle.std.specs.Prelude.{◌≡◌, List, [], ◌∷◌, ℕ, ltb, length, if◌then◌else◌, Result}
use Rattle.words.specs.Said.{Said, done, refused, and_then, left}
use Rattle.words.specs.Refusal.{number_says}
use Rattle.words.specs.declared.refusal.Refusal.{Refusal}
use Rattle.entry.specs.NewList.{putting, dropping}
use Rattle.entry.specs.Plan.{put_judged, drop_judged}
use Rattle.entry.specs.declared.entries.Entry.{Entry}

-- a second buffer that is too short is 21; else the answer is the new length
unfoldable pub room_says : List ℕ → List ℕ → Said
room_says new out =
    if ltb (length out) (length new) then refused 21 [] else
    done (length new ∷ [])

-- the refusals of the old list, the entry and the new list, then 21
module _ (list : List ℕ) (entry : Entry) (out : List ℕ) where
  unfoldable pub put_says : Said
  put_says = and_then (put_judged list entry) (room_says (putting list entry) out)

  unfoldable pub drop_says : Said
  drop_says = and_then (drop_judged list entry) (room_says (dropping list entry) out)

-- putting an entry
pub record Puts (list : List ℕ) (entry : Entry) (out : List ℕ) (r : Result ℕ Refusal) (after : List ℕ) : Type 0 where
  pub answer : number_says r ≡ put_says list entry out
  pub out_after : after ≡ left (put_says list entry out) (putting list entry) out

-- dropping an entry
pub record Drops (list : List ℕ) (entry : Entry) (out : List ℕ) (r : Result ℕ Refusal) (after : List ℕ) : Type 0 where
  pub answer : number_says r ≡ drop_says list entry out
  pub out_after : after ≡ left (drop_says list entry out) (dropping list entry) out
