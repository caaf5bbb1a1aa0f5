use mathlib.Core.Path.{refl, ◌∙◌, ap}
use mathlib.Core.List.{List}
use Prim.Native.Nat.{ℕ, ◌+◌}
use borrow.Author.Rules.{part_to_end}
use Rattle.words.specs.Writing.{over}
use Rattle.edit.proofs.writing.copy_tail.Goals as goal

pub returns : goal.returns
returns c =
    let a = c.args in
    (refl, c.copy_to.ensures ∙ ap (λ (xs : List ℕ). over (a.plan.spot.at + a.plan.size) xs a.out.now) (part_to_end a.list.now (a.plan.spot.at + a.plan.spot.size)))
