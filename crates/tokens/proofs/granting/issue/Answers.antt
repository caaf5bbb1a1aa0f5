use Prim.Native.Nat.{◌+◌, ◌*◌}
use native.Mathlib.Omega.{arith}
use Rattle.table.specs.Layout.{width}
use Rattle.table.specs.declared.slot.Slot.TheVariants.{Held}
use Rattle.table.proofs.Tables.{form_size}
use Rattle.table.proofs.Lent.{lent_written}
use Rattle.tokens.proofs.Issued.{not_last, issued}
use Rattle.tokens.proofs.granting.issue.Goals as goal

pub overflow_add-next : goal.overflow_add-next
overflow_add-next c = let t = not_last c.args.table.now c.requires c.number_at-next.ensures.answer in omega arith

pub returns : goal.returns
returns c = let w = (form_size c.args.table.now c.requires.formed).whole in let t = c.requires.inside in issued c.args.table.now c.args.claim c.requires (λ k. (c.slice_known-1.given k).fits) c.number_at-next.ensures.answer (lent_written (width * (c.args.free + 1)) c.args.table.now (omega arith) (Held c.number_at-next.result c.args.claim) _ c.write_slot.ensures.slot_after) c.write_number.ensures.bytes_after
