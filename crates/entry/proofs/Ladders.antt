-- What a ladder of refusals tells: nothing was refused on the way to an answer, and a refusal is that of the first that can refuse. Assumes
-- nothing.
use Rattle.std.specs.Prelude.{if◌then◌else◌}
use mathlib.Core.Path.{◌≡◌, refl, sym}
use mathlib.Core.List.{List, []}
use mathlib.Core.Bool.{Bool, true, false, not}
use Prim.Native.Nat.{ℕ}
use Rattle.words.specs.Said.{Said, done, refused, and_then}
use Rattle.words.specs.Refusal.{refusal_says}
use Rattle.words.specs.declared.refusal.Refusal.{Refusal}

-- nothing was refused on the way to an answer
pub past : (first next : Said) (v : List ℕ) → done v ≡ and_then first next → (w : List ℕ) × ((first ≡ done w) × (done v ≡ next))
unfolding and_then
past (done w) next v q = (w, (refl, q))
past (refused number values) next v q = cc

pub past_test : (b : Bool) (number : ℕ) (values : List ℕ) (next : Said) (v : List ℕ) → done v ≡ (if not b then refused number values else next)
    → (b ≡ true) × (done v ≡ next)
past_test true number values next v q = (refl, q)
past_test false number values next v q = cc

module _ (e : Refusal) where
  -- a refusal is that of the first that can refuse
  pub stopped : (first : Said) (v : List ℕ) → refusal_says e ≡ and_then first (done v) → first ≡ refusal_says e
  unfolding and_then refusal_says
  stopped (done w) v q = cc
  stopped (refused number values) v q = sym q

  -- whatever comes after it
  pub stops : (first next : Said) → first ≡ refusal_says e → refusal_says e ≡ and_then first next
  unfolding and_then refusal_says
  stops first next q = rw q refl

  pub stops_before : (first : Said) (b : Bool) (number : ℕ) (values : List ℕ) (next : Said)
      → refusal_says e ≡ and_then first (if b then refused number values else done []) → and_then first (if b then refused number values else next) ≡ refusal_says e
  unfolding and_then refusal_says
  stops_before (done w) true number values next q = sym q
  stops_before (done w) false number values next q = cc
  stops_before (refused m us) b number values next q = sym q
