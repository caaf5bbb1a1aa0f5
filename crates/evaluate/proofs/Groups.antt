-- Looking for a group among the caller's. Assumes nothing.
use mathlib.Core.Path.{◌≡◌, sym}
use mathlib.Core.List.{List}
use mathlib.Core.Bool.{Bool, true, false}
use Prim.Native.Nat.{ℕ, ◌+◌, ◌≤◌, ◌<◌}
use native.Mathlib.Numerals.{add-one}
use borrow.Author.Tests.{eq-eqb, ne_eqb}
use lib.Dec.{eqb}
use lib.ListN.{length, drop, get_or, drop_of_length-le}
use lib.Seq.{drop-cons}
use Rattle.words.specs.Test.{any_of}
use Rattle.evaluate.specs.Asking.{in_group, TellsGroup}
use Rattle.evaluate.specs.declared.asking.Caller.{Caller}

-- one of some groups
abbrev pub among : ℕ → List ℕ → Bool
among id groups = any_of (λ (g : ℕ). eqb g id) groups

-- the search goes on in the rest of the list
module _ (id : ℕ) (groups : List ℕ) (i : ℕ) where
  pub none_left : length groups ≤ i → among id (drop i groups) ≡ false
  unfolding any_of
  none_left h = rw drop_of_length-le

  pub here : i < length groups → get_or groups i 0 ≡ id → among id (drop i groups) ≡ true
  unfolding any_of
  here h e = rw (drop-cons groups i 0, eq-eqb (get_or groups i 0) id e)

  pub not_here : i < length groups → (get_or groups i 0 ≡ id → ⊥) → among id (drop i groups) ≡ among id (drop (i + 1) groups)
  unfolding any_of
  not_here h n = rw (drop-cons groups i 0, ne_eqb (get_or groups i 0) id n, add-one)

-- a caller is in a group by its primary one, or where that is another, by the further ones: laws for crates above
module _ (caller : Caller) (groups : List ℕ) (id : ℕ) where
  pub primary : caller.group ≡ id → TellsGroup caller groups id true
  unfolding in_group
  primary e = record { answer = simp (eq-eqb caller.group id e) }

  pub further : (caller.group ≡ id → ⊥) → {b : Bool} → among id groups ≡ b → TellsGroup caller groups id b
  unfolding in_group
  further n q = record { answer = simp (ne_eqb caller.group id n) (sym q) }
