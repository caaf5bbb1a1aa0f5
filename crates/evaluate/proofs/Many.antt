-- When 23 is said: of more than 32 groups. Assumes nothing.
use mathlib.Core.Path.{◌≡◌}
use mathlib.Core.List.{List}
use Prim.Native.Nat.{ℕ, ◌≤◌, ◌<◌}
use borrow.Author.Tests.{lt-ltb, le-ltb}
use lib.ListN.{length}
use Rattle.words.specs.Refusal.{refusal_number, refusal_value, values_in, refusal_says}
use Rattle.words.specs.declared.refusal.Refusal.TheVariants.{TooManyGroups}
use Rattle.evaluate.specs.Evaluation.{Decided, bare, unless_too_many}

module _ (groups : List ℕ) (d : Decided) where
  pub too_many : 32 < length groups → bare (refusal_says TooManyGroups) ≡ unless_too_many groups d
  unfolding unless_too_many refusal_says refusal_number refusal_value values_in
  too_many h = simp (lt-ltb 32 (length groups) h)

  pub not_too_many : length groups ≤ 32 → d ≡ unless_too_many groups d
  unfolding unless_too_many
  not_too_many h = simp (le-ltb 32 (length groups) h)
