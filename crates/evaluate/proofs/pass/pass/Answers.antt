use mathlib.Core.Path.{◌∙◌, ap}
use Rattle.std.specs.Prelude.{Ok}
use Rattle.list.specs.Checking.{placed}
use Rattle.list.specs.Walking.{start_of}
use Rattle.list.specs.declared.walk.Walk.{Walk}
use Rattle.list.proofs.Runs.{starts, goes, falls, refuses, passes_all, gathers_all}
use Rattle.evaluate.specs.Asking.{of_default_realm}
use Rattle.evaluate.specs.Tally.{no_tally, tallying}
use Rattle.words.proofs.Refusals.{handed_on}
use Rattle.evaluate.proofs.Passing.{ends_refused, ends_fine}
use Rattle.evaluate.proofs.pass.pass.Goals as goal

pub loop-r-init : goal.loop-r-init
unfolding start_of placed
loop-r-init c = rw (c.start-walk.ensures.answer, c.no_tally-tally.ensures) (starts (tallying _) _ no_tally)

pub loop-r-smaller : goal.loop-r-smaller
loop-r-smaller c = falls c.step.ensures c.loop-r.invariant (c.in_ok-r.was ∙ ap Ok c.in-Some.is)

pub loop-r-preserved : goal.loop-r-preserved
unfolding placed
loop-r-preserved c = rw (c.with-tally.ensures, c.step_of.ensures) (goes c.step.ensures c.loop-r.invariant (c.in_ok-r.was ∙ ap Ok c.in-Some.is))

pub returns-in_err-r : goal.returns-in_err-r
returns-in_err-r c = rw (handed_on _ _ c.from_residual.ensures.1) (ends_refused (refuses c.step.ensures c.loop-r.invariant c.in_err-r.was))

pub returns : goal.returns
unfolding start_of
returns c =
    let caller = c.args.caller in
    let home = c.is_of_default_realm-home in
    let over = c.in_ok-r.was ∙ ap Ok c.in_default.is in
    ends_fine home.result (home.ensures ∙ ap (λ (w : Walk). of_default_realm caller w.home) c.start-walk.ensures.answer)
    (passes_all c.step.ensures c.loop-r.invariant over) (gathers_all c.step.ensures c.loop-r.invariant over)
