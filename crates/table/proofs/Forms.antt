-- The form of one slot, and of the header, by the tests that the code makes. Assumes nothing.
use mathlib.Core.Path.{◌≡◌, refl, sym, ◌∙◌}
use mathlib.Core.Bool.{Bool, true, false, and-false, or-false}
use mathlib.Core.List.{List, [], ◌∷◌}
use Prim.Native.Nat.{ℕ, ◌≤◌}
use native.Mathlib.Omega.{arith}
use borrow.Author.Tests.{eq-eqb, ne_eqb}
use lib.Dec.{eqb}
use lib.ListN.{length, drop}
use Rattle.words.specs.Test.{all_of}
use Rattle.words.specs.Number.{number_at}
use Rattle.words.proofs.Tests.{and_left}
use Rattle.table.specs.Layout.{width, kind_of, claim_of}
use Rattle.table.specs.Form.{is_length, all_zero, is_header, is_token, is_slot, opening}

zero_first : (slot : List ℕ) → kind_of slot ≡ 0 → all_zero slot ≡ all_zero (drop 1 slot)
unfolding all_zero all_of kind_of
zero_first [] e = refl
zero_first (x ∷ xs) e = rw (eq-eqb x 0 e) refl

other_first : (slot : List ℕ) → 1 ≤ length slot → (kind_of slot ≡ 0 → ⊥) → all_zero slot ≡ false
unfolding all_zero all_of kind_of
other_first [] h e = absurd (omega arith)
other_first (x ∷ xs) h e = rw (ne_eqb x 0 e) refl

module _ (top next : ℕ) (slot : List ℕ) where
  pub other_length : (length slot ≡ width → ⊥) → false ≡ is_slot top next slot
  unfolding is_slot
  other_length h = rw (ne_eqb (length slot) width h) refl

  module _ (sized : length slot ≡ width) {kind : ℕ} (told : kind ≡ kind_of slot) where
    pub free_slot : kind ≡ 0 → {b : Bool} → b ≡ all_zero (drop 1 slot) → b ≡ is_slot top next slot
    unfolding is_slot
    free_slot z e =
        let k : kind_of slot ≡ 0 = sym told ∙ z in
        e ∙ sym (rw (eq-eqb (length slot) width sized, zero_first slot k, k) (or-false (all_zero (drop 1 slot))))

    module _ (used : kind ≡ 0 → ⊥) where
      stands : all_zero slot ≡ false
      stands = other_first slot (omega arith) (λ z. used (told ∙ z))

      pub no_slot : (kind ≡ 1 → ⊥) → false ≡ is_slot top next slot
      unfolding is_slot
      no_slot h = rw (stands, ne_eqb (kind_of slot) 1 (λ z. h (told ∙ z)), and-false (eqb (length slot) width)) refl

      pub token_slot : kind ≡ 1 → {b : Bool} → b ≡ is_token top next (number_at 8 33 slot) (claim_of slot) → b ≡ is_slot top next slot
      unfolding is_slot
      token_slot h e = e ∙ sym (rw (eq-eqb (length slot) width sized, stands, eq-eqb (kind_of slot) 1 (sym told ∙ h)) refl)

-- what a well-formed beginning tells
pub opening_length : (bytes : List ℕ) → opening bytes ≡ true → is_length (length bytes) ≡ true
unfolding opening
opening_length bytes e = and_left (is_length (length bytes)) (is_header bytes) e
