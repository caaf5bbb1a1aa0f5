use mathlib.Core.Path.{sym, ◌∙◌}
use Rattle.returns.proofs.Freed.{ill_formed, no_host, host_dropped}
use Rattle.returns.proofs.dropping.drop_host.Goals as goal

pub returns-then-not-well_formed : goal.returns-then-not-well_formed
returns-then-not-well_formed c = ill_formed c.args.table.now c.args.host (sym c.well_formed-2.ensures.answer ∙ c.if-not-well_formed.true)

pub returns-then-host-eq0 : goal.returns-then-host-eq0
returns-then-host-eq0 c = no_host c.args.table.now c.args.host (sym c.well_formed-2.ensures.answer ∙ c.if-not-well_formed.false) c.if-host-eq0.true

pub free_all-requires : goal.free_all-requires
free_all-requires c = (sym c.well_formed-2.ensures.answer ∙ c.if-not-well_formed.false)

pub returns : goal.returns
returns c = host_dropped c.args.table.now c.args.host (sym c.well_formed-2.ensures.answer ∙ c.if-not-well_formed.false) c.if-host-eq0.false c.free_all.ensures
