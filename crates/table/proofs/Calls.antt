-- A call on a table, by its bytes. Assumes nothing.
use mathlib.Core.Path.{◌≡◌, refl, sym, ◌∙◌}
use mathlib.Core.Bool.{true, false}
use mathlib.Core.List.{List, []}
use Prim.Native.Nat.{ℕ}
use Rattle.std.specs.Prelude.{Err}
use Rattle.words.specs.Said.{Said, refused, left}
use Rattle.words.specs.Refusal.{refusal_number, refusal_value, values_in, refusal_says, says_by}
use Rattle.words.specs.declared.refusal.Refusal.{Refusal}
use Rattle.words.specs.declared.refusal.Refusal.TheVariants.{NotWellFormed}
use Rattle.table.specs.Table.{Table}
use Rattle.table.specs.Layout.{table_of, bytes_of}
use Rattle.table.specs.Form.{well_formed}
use Rattle.table.specs.Call.{says_of, left_of}

module _ (says : Table → Said) (bytes : List ℕ) where
  pub says_ill : well_formed bytes ≡ false → says_of says bytes ≡ refused 30 []
  unfolding says_of
  says_ill e = rw e refl

  -- the survey's refusal
  pub ill_refused : well_formed bytes ≡ false → {refusal : Refusal} → refusal ≡ NotWellFormed → says_of says bytes ≡ refusal_says refusal
  unfolding refusal_says refusal_number refusal_value values_in
  ill_refused e r = says_ill e ∙ rw r refl

  pub says_well : well_formed bytes ≡ true → says_of says bytes ≡ says (table_of bytes)
  unfolding says_of
  says_well e = rw e refl

  module _ (changed : Table → Table) where
    pub left_refused : {number : ℕ} {values : List ℕ} → says_of says bytes ≡ refused number values → left_of says changed bytes ≡ bytes
    unfolding left_of left
    left_refused e = rw e refl

    -- both of a refusal: what it says, and that nothing is changed
    pub refusing : {A : Type 0} (values : A → List ℕ) (refusal : Refusal) → says_of says bytes ≡ refusal_says refusal
        → (says_by values (Err refusal) ≡ says_of says bytes) × (bytes ≡ left_of says changed bytes)
    unfolding says_by refusal_says
    refusing values refusal e = (sym e, sym (left_refused e))

    pub left_by : {said : Said} → says_of says bytes ≡ said → left_of says changed bytes ≡ left said (bytes_of (changed (table_of bytes))) bytes
    unfolding left_of
    left_by e = rw e refl
