-- A scan of the slots for their form. Assumes nothing.
use mathlib.Core.Path.{◌≡◌, refl, sym, ◌∙◌, ap}
use mathlib.Core.Bool.{Bool, true, false}
use mathlib.Core.List.{List, [], ◌∷◌, ◌++◌}
use Prim.Native.Nat.{ℕ, ◌<◌}
use lib.ListN.{length, drop}
use Rattle.words.specs.Test.{all_of}
use Rattle.words.proofs.Tests.{all_append, and_both}
use Rattle.table.specs.Layout.{width, slots_in}
use Rattle.table.specs.Form.{is_slot}
use Rattle.table.proofs.Slots.{Passing, cuts, none_passed, at_slot, one_passed, all_passed}

-- the slots that the loop has passed are well formed
pub record Checked (bytes : List ℕ) (top next size : ℕ) (rest : List ℕ) : Type 0 where
  pub slots : Passing (slots_in bytes) size rest
  pub good : all_of (is_slot top next) slots.passed ≡ true

module _ {bytes : List ℕ} (top next : ℕ) where
  unfoldable pub none_checked : {size : ℕ} {rest : List ℕ} → size ≡ width → rest ≡ drop width bytes → Checked bytes top next size rest
  unfolding all_of none_passed
  none_checked w e = record { slots = none_passed bytes w e; good = refl }

module _ {bytes : List ℕ} {top next size : ℕ} {rest : List ℕ} (so_far : Checked bytes top next size rest) where
  module _ (slot more : List ℕ) (given : (rest ≡ slot ++ more) × (length slot ≡ size)) {b : Bool} (told : b ≡ is_slot top next slot) where
    unfoldable pub one_checked : b ≡ true → {size' : ℕ} → size' ≡ size → Checked bytes top next size' more
    unfolding all_of one_passed
    one_checked t e = record {
      slots = one_passed so_far.slots slot more given e;
      good = all_append (is_slot top next) so_far.slots.passed (slot ∷ []) ∙ and_both _ _ so_far.good (rw (← told, t) refl);
    }

    pub one_bad : b ≡ false → false ≡ all_of (is_slot top next) (slots_in bytes)
    unfolding all_of
    one_bad t =
        sym (ap (all_of (is_slot top next)) (at_slot so_far.slots slot more given)
        ∙ all_append (is_slot top next) so_far.slots.passed (slot ∷ cuts more)
        ∙ rw (so_far.good, ← told, t) refl)

  pub all_checked : length rest < size → true ≡ all_of (is_slot top next) (slots_in bytes)
  all_checked h = sym so_far.good ∙ ap (all_of (is_slot top next)) (sym (all_passed so_far.slots h))
