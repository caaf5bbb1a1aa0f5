use Rattle.access.specs.Access.{access_in}
use Rattle.desk.proofs.Judged.{asking, not_asking}
use Rattle.desk.proofs.asking.ask.Goals as goal

pub returns-in-Err : goal.returns-in-Err
returns-in-Err c = not_asking c.args.table.now c.args.claim (access_in c.args.access) c.judge.ensures.answer c.in-Err.is c.first_refusal.ensures

pub returns : goal.returns
returns c = asking c.args.table.now c.args.claim (access_in c.args.access) c.judge.ensures.answer c.in_default.is c.ask.ensures
