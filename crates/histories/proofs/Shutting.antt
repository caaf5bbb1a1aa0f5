-- Outcomes of wrong programs that the demands do not allow. Assumes nothing.
use mathlib.Core.Path.{◌≡◌, refl, sym, ◌∙◌}
use mathlib.Core.Bool.{false}
use mathlib.Core.List.{List, [], ◌∷◌}
use Prim.Native.Nat.{ℕ}
use Rattle.words.specs.Test.{any_of}
use Rattle.words.specs.Said.{Said, done, refused}
use Rattle.table.specs.Layout.{table_of}
use Rattle.histories.specs.Shape.{shape, is_answer, faults, of_put, of_grant}
use Rattle.histories.specs.Callback.{Item, Holds, Entry, Listed, Turn, GivenBack}
use Rattle.histories.specs.Demands.{Served, LeastThatServes}
use Rattle.histories.proofs.Serving.{room_not_conflict}

module _ (list : List Entry) (turns : List Turn) (present : List ℕ) where
  -- refused for conflict, though nothing is listed or all that is listed was given back: a grant that always says 32, a return that changes
  -- nothing, an ask that lists only the first conflict
  pub refused_for_nothing : ((x : Item) → Listed list x → GivenBack turns x) → LeastThatServes list turns present (refused 32 []) → ⊥
  refused_for_nothing all d = room_not_conflict (table_of present) (sym (d.once_returned all))

  -- served, though a listed type is still held: an ask that lists what is not in the way
  pub served_too_soon : (said : Said) (x : Item) → Listed list x → Holds (table_of present) x → Served present said → LeastThatServes list turns present said → ⊥
  served_too_soon said x l h s d = room_not_conflict (table_of present) (sym s ∙ d.while_held x l h)

-- a grant that answers with two values, an editor that says 99
pub two_values : (m n : ℕ) → is_answer of_grant (done (m ∷ n ∷ [])) ≡ false
unfolding is_answer of_grant shape
two_values m n = refl

pub ninety_nine : (values : List ℕ) → is_answer of_put (refused 99 values) ≡ false
unfolding is_answer of_put shape faults any_of
ninety_nine [] = refl
ninety_nine (value ∷ []) = refl
ninety_nine (value ∷ other ∷ more) = refl
