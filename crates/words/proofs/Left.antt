-- A lent buffer after a call. Assumes nothing.
use mathlib.Core.Path.{◌≡◌, refl, sym, ◌∙◌, ap}
use mathlib.Core.Bool.{false}
use mathlib.Core.List.{List, ◌++◌, append-nil}
use Prim.Native.Nat.{ℕ}
use native.Mathlib.Nat.{le_of_eq}
use lib.ListN.{length, drop_of_length-le}
use Rattle.words.specs.Said.{Said, done, refused, is_done, left}
use Rattle.words.proofs.Tests.{differ}

-- new bytes that fill it
pub left_whole : (values new old : List ℕ) → length new ≡ length old → left (done values) new old ≡ new
unfolding left
left_whole values new old e = ap (λ (xs : List ℕ). new ++ xs) (drop_of_length-le old (le_of_eq (sym e))) ∙ append-nil new

-- what is refused leaves it as it was
pub left_kept : (said : Said) (new old : List ℕ) → is_done said ≡ false → left said new old ≡ old
unfolding is_done left
left_kept (done values) new old e = absurd (differ e)
left_kept (refused number values) new old e = refl

-- a refusal is not done
pub not_done : (number : ℕ) (v w : List ℕ) → refused number v ≡ done w → ⊥
unfolding is_done
not_done number v w e = differ (sym (ap is_done e))
