use Rattle.exchange.specs.Answer.{answered}
use Rattle.exchange.proofs.answer.ResultRefusalTold.told.Goals as goal

pub returns-in-Ok : goal.returns-in-Ok
unfolding answered
returns-in-Ok g c = record { answer = rw c.in-Ok.is c.told.ensures.answer }

pub returns-in-Err : goal.returns-in-Err
unfolding answered
returns-in-Err g c = record { answer = rw c.in-Err.is c.told-in-Err.ensures.answer }
