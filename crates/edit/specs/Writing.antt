-- Contracts of the crate's own functions: writing a new list that was judged.
use Rattle.std.specs.Prelude.{◌≡◌, List, ◌++◌, ℕ, ◌+◌, ◌≤◌, length, take, drop, Result}
use Rattle.words.specs.Said.{left}
use Rattle.words.specs.Refusal.{number_says}
use Rattle.words.specs.declared.refusal.Refusal.{Refusal}
use Rattle.entry.specs.declared.spot.Spot.{Spot}
use Rattle.entry.specs.declared.planning.Plan.{Plan}
use Rattle.edit.specs.Editing.{room_says}

-- a list with a piece in place of what stands at a spot
unfoldable pub splice : List ℕ → Spot → List ℕ → List ℕ
splice list s piece = take s.at list ++ (piece ++ drop (s.at + s.size) list)

-- the plan's bytes can take the place of what stands at its spot, and the list is then as long as it says
pub record Fits (list : List ℕ) (plan : Plan) : Type 0 where
  pub inside : plan.spot.at + plan.spot.size ≤ length list
  pub long : plan.total + plan.spot.size ≡ length list + plan.size

-- writing
pub record Writes (new out : List ℕ) (r : Result ℕ Refusal) (after : List ℕ) : Type 0 where
  pub answer : number_says r ≡ room_says new out
  pub out_after : after ≡ left (room_says new out) new out
