use native.Mathlib.Omega.{arith}
use Rattle.table.proofs.Tables.{form_size}
use Rattle.returns.proofs.Freed.{none_freed, one_freed, all_freed}
use Rattle.returns.proofs.dropping.free_all.Goals as goal

pub overflow_sub-n : goal.overflow_sub-n
overflow_sub-n c = let w = (form_size c.args.table.now c.requires).some in omega arith

pub loop-i-init : goal.loop-i-init
loop-i-init c = none_freed c.args.table.now c.args.host c.requires (λ k. (c.slice_known-1.given k).fits)

pub loop-i-preserved : goal.loop-i-preserved
loop-i-preserved c = one_freed c.args.table.now c.loop-i.table c.args.host c.loop-i.freed c.loop-i.i c.loop-i.invariant c.loop-i-test.true c.free_slot.ensures

pub returns : goal.returns
returns c = all_freed c.args.table.now c.loop-i.table c.args.host c.loop-i.freed c.loop-i.i c.loop-i.invariant c.loop-i-test.false
