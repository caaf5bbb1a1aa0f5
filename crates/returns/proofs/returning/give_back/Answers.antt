use mathlib.Core.Path.{sym, ◌∙◌}
use Rattle.returns.proofs.Returned.{ill_formed, misshapen, types_few, no_such_token, inside, loses_there}
use Rattle.returns.proofs.returning.give_back.Goals as goal

pub returns-then-not-well_formed : goal.returns-then-not-well_formed
returns-then-not-well_formed c = ill_formed c.args.table.now c.args.host c.args.number c.args.types (sym c.well_formed-2.ensures.answer ∙ c.if-not-well_formed.true)

pub returns-then-is_unfit : goal.returns-then-is_unfit
returns-then-is_unfit c = misshapen c.args.table.now c.args.host c.args.number c.args.types (sym c.well_formed-2.ensures.answer ∙ c.if-not-well_formed.false) c.is_unfit.ensures.answer c.if-is_unfit.true

pub returns-in_default : goal.returns-in_default
returns-in_default c =
    no_such_token c.args.table.now c.args.host c.args.number c.args.types (sym c.well_formed-2.ensures.answer ∙ c.if-not-well_formed.false) c.is_unfit.ensures.answer c.if-is_unfit.false
    (sym c.in_default.is ∙ c.find.ensures)

pub lose-requires : goal.lose-requires
lose-requires c =
    let w = sym c.well_formed-2.ensures.answer ∙ c.if-not-well_formed.false in
    let n = c.args.number in (
      w,
      inside c.args.table.now c.args.host n c.args.types w c.is_unfit.ensures.answer c.if-is_unfit.false (sym c.in-Some.is ∙ c.find.ensures),
      types_few c.args.table.now c.args.host n c.args.types w c.is_unfit.ensures.answer c.if-is_unfit.false,
    )

pub returns : goal.returns
returns c =
    loses_there c.args.table.now c.args.host c.args.number c.args.types (sym c.well_formed-2.ensures.answer ∙ c.if-not-well_formed.false) c.is_unfit.ensures.answer c.if-is_unfit.false
    (sym c.in-Some.is ∙ c.find.ensures) c.lose.ensures
