use mathlib.Core.Path.{refl, ◌∙◌}
use Rattle.table.proofs.Lent.{lent_written}
use Rattle.returns.proofs.Returned.{type_lacking, none_lacking, types_lost}
use Rattle.returns.proofs.returning.lose_from.Goals as goal

pub returns-then-held-types : goal.returns-then-held-types
returns-then-held-types c = type_lacking c.args.table.now c.args.at c.args.number c.args.held c.args.types c.requires.2 c.if-held-types.true

pub without_types-requires : goal.without_types-requires
without_types-requires c = (c.requires.1, c.requires.2, none_lacking c.args.table.now c.args.at c.args.number c.args.held c.args.types c.requires.2 c.if-held-types.false)

pub returns : goal.returns
returns c = types_lost c.args.table.now c.args.at c.args.number c.args.held c.args.types c.requires.2 c.if-held-types.false (lent_written c.args.at c.args.table.now c.requires.0 _ _ c.write_slot.ensures.slot_after ∙ rw c.without_types.ensures refl)
