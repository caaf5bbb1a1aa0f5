-- Slots by their places: what a test finds, what a store leaves. Assumes nothing.
use mathlib.Core.Path.{◌≡◌, refl, sym, ◌∙◌}
use mathlib.Core.Bool.{Bool, true, false}
use mathlib.Core.List.{List}
use mathlib.Core.Logic.{◌≢◌}
use Prim.Native.Nat.{ℕ, ◌<◌}
use native.Mathlib.Decide.{ℕ_discrete}
use borrow.Author.Tests.{ltb-true}
use lib.ListN.{length, get_or, set}
use lib.Seq.{get_or-set_same, get_or-set_other}
use Rattle.words.specs.Test.{any_of, place_of}
use Rattle.words.proofs.Tests.{differ, each_at, none_any}
use Rattle.words.proofs.Found.{any_placed, passes_there}
use Rattle.table.specs.declared.slot.Slot.{Slot}
use Rattle.table.specs.declared.slot.Slot.TheVariants.{Free}

-- for a test that no free slot passes, places past the last need no mention
module _ (test : Slot → Bool) (free : test Free ≡ false) (slots : List Slot) where
  pub none_at : any_of test slots ≡ false → (i : ℕ) → test (get_or slots i Free) ≡ false
  none_at e i = each_at (λ slot. test slot ≡ false) slots Free (none_any test slots e) free i

  pub any_at : (i : ℕ) → test (get_or slots i Free) ≡ true → any_of test slots ≡ true
  any_at i e = go (any_of test slots) (λ q. none_at q i)
    where
      go : (b : Bool) → (b ≡ false → test (get_or slots i Free) ≡ false) → b ≡ true
      go true f = refl
      go false f = absurd (differ (sym e ∙ f refl))

module _ (test : Slot → Bool) (slots : List Slot) (e : any_of test slots ≡ true) where
  pub place_in_lem : place_of test slots < length slots
  place_in_lem = ltb-true (place_of test slots) (length slots) (sym (any_placed test slots) ∙ e)

  pub there : test (get_or slots (place_of test slots) Free) ≡ true
  there = passes_there test slots Free place_in_lem

pub at_set : (P : Slot → Type 0) (slots : List Slot) (k i : ℕ) (slot : Slot) → k < length slots
    → (i ≡ k → P slot) → (i ≢ k → P (get_or slots i Free)) → P (get_or (set slots k slot) i Free)
at_set P slots k i slot h f g = go (ℕ_discrete i k)
  where
    go : Dec (i ≡ k) → P (get_or (set slots k slot) i Free)
    go (yes e) = rw (e, get_or-set_same slots k slot Free h) (f e)
    go (no n) = rw (get_or-set_other slots k i slot Free n) (g n)
