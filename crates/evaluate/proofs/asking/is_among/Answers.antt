use mathlib.Core.Path.{refl, sym, ◌∙◌}
use Rattle.evaluate.proofs.Groups.{none_left, here, not_here}
use Rattle.evaluate.proofs.asking.is_among.Goals as goal

pub loop-group-init : goal.loop-group-init
loop-group-init c = refl

pub returns-then-group-id : goal.returns-then-group-id
returns-then-group-id c =
    let p = c.args in
    sym (c.loop-group.invariant ∙ here p.id p.groups.now c.loop-group.group-index c.loop-group-test.true c.if-group-id.true)

pub loop-group-preserved : goal.loop-group-preserved
loop-group-preserved c =
    let p = c.args in
    c.loop-group.invariant ∙ not_here p.id p.groups.now c.loop-group.group-index c.loop-group-test.true c.if-group-id.false

pub returns : goal.returns
returns c =
    let p = c.args in
    sym (c.loop-group.invariant ∙ none_left p.id p.groups.now c.loop-group.group-index c.loop-group-test.false)
