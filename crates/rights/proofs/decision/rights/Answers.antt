use native.Mathlib.Omega.{arith}
use Rattle.rights.proofs.Handing.{refused, start_is, size_is, decides}
use Rattle.rights.proofs.Inside.{decided_fits}
use Rattle.rights.proofs.decision.rights.Goals as goal

pub part_at-requires : goal.part_at-requires
part_at-requires c =
    let a = c.args.access in
    let e = c.decide.ensures in
    omega (arith, decided_fits a.list.now a.groups.now a.caller a.file a.guard, start_is e c.in-Ok.is, size_is e c.in-Ok.is)

pub returns-in-Ok : goal.returns-in-Ok
returns-in-Ok c = decides c.decide.ensures c.in-Ok.is _ _ c.part_at.ensures.0 c.part_at.ensures.1

pub returns-in-Err : goal.returns-in-Err
returns-in-Err c = refused c.decide.ensures c.in-Err.is _ _ c.part_at-in-Err.ensures.0 c.part_at-in-Err.ensures.1
