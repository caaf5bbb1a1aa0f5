use mathlib.Core.Path.{ap, ◌∙◌}
use Rattle.words.proofs.Digits.{lent_part}
use Rattle.table.specs.Layout.{width, slot_of}
use Rattle.table.specs.declared.slot.Slot.TheVariants.{Free}
use Rattle.table.proofs.Lent.{lent_written}
use Rattle.table.proofs.Determined.{slot_is}
use Rattle.returns.proofs.Freed.{not_freed, freed_one}
use Rattle.returns.proofs.dropping.free_slot.Goals as goal

pub returns-then-not-is_hosts : goal.returns-then-not-is_hosts
returns-then-not-is_hosts c = not_freed c.args.table.now c.args.at c.args.host (slot_is c.read_slot.ensures ∙ ap slot_of (lent_part c.args.at width c.args.table.now)) c.is_hosts.ensures c.if-not-is_hosts.true

pub returns : goal.returns
returns c = freed_one c.args.table.now c.args.at c.args.host (slot_is c.read_slot.ensures ∙ ap slot_of (lent_part c.args.at width c.args.table.now)) c.is_hosts.ensures c.if-not-is_hosts.false (lent_written c.args.at c.args.table.now c.requires Free _ c.write_slot.ensures.slot_after)
