use mathlib.Core.Path.{sym, ap, ◌∙◌}
use native.Mathlib.Omega.{arith}
use Rattle.std.specs.Prelude.{Ok}
use Rattle.records.specs.Reading.{when_whole}
use Rattle.records.proofs.Determined.{read_is}
use Rattle.records.proofs.Tails.{is, within_tail, unplaced}
use Rattle.list.specs.Fault.{fault}
use Rattle.list.specs.Walking.{heard, refused_or}
use Rattle.list.proofs.walk.Walk.hear.Goals as goal

pub take-requires : goal.take-requires
take-requires c =
    let q = sym (read_is c.read_record.ensures) ∙ c.in-Ok-Some.is ∙ ap Ok c.in-Ok-Some.field-0-is in
    record { size_bound = omega (arith, within_tail c.args.tail.now c.in-Ok-Some.r q); realm_value = unplaced c.args.tail.now c.in-Ok-Some.r (is c.args.tail.now c.in-Ok-Some.r q) }

pub returns-in-Ok-Some : goal.returns-in-Ok-Some
returns-in-Ok-Some c = simp (← read_is c.read_record.ensures, c.in-Ok-Some.is, c.in-Ok-Some.field-0-is, c.take.ensures)

pub returns-in-Ok-None : goal.returns-in-Ok-None
unfolding heard refused_or when_whole fault
returns-in-Ok-None c = simp (← read_is c.read_record.ensures, c.in-Ok-None.is, c.in-Ok-None.field-0-is)

pub returns-in-Err : goal.returns-in-Err
unfolding heard refused_or when_whole fault
returns-in-Err c = simp (← read_is c.read_record.ensures, c.in-Err.is, c.at.ensures.answer)
