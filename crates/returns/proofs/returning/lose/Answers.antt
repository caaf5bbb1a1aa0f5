use mathlib.Core.Path.{ap, ◌∙◌}
use Prim.Native.Nat.{◌+◌, ◌*◌}
use native.Mathlib.Omega.{arith}
use Rattle.words.proofs.Digits.{lent_part}
use Rattle.table.specs.Layout.{width, slot_of}
use Rattle.table.proofs.Tables.{form_size}
use Rattle.table.proofs.Determined.{slot_is}
use Rattle.returns.proofs.Returned.{no_token, token_small, token_loses}
use Rattle.returns.proofs.returning.lose.Goals as goal

pub overflow_add-at : goal.overflow_add-at
overflow_add-at c = let s = form_size c.args.table.now c.requires.0 in let w = s.whole in let f = s.few in let t = c.requires.1 in omega arith

pub overflow_mul-at : goal.overflow_mul-at
overflow_mul-at c = let s = form_size c.args.table.now c.requires.0 in let w = s.whole in let f = s.few in let t = c.requires.1 in omega arith

pub overflow_add-at-2 : goal.overflow_add-at-2
overflow_add-at-2 c = let s = form_size c.args.table.now c.requires.0 in let w = s.whole in let f = s.few in let t = c.requires.1 in omega arith

pub slice_bounds-read_slot-count : goal.slice_bounds-read_slot-count
slice_bounds-read_slot-count c = let s = form_size c.args.table.now c.requires.0 in let w = s.whole in let f = s.few in let t = c.requires.1 in omega arith

pub slice_bounds-read_slot-start : goal.slice_bounds-read_slot-start
slice_bounds-read_slot-start c = let s = form_size c.args.table.now c.requires.0 in let w = s.whole in let f = s.few in let t = c.requires.1 in omega arith

pub slice_bounds-read_slot-end : goal.slice_bounds-read_slot-end
slice_bounds-read_slot-end c = let s = form_size c.args.table.now c.requires.0 in let w = s.whole in let f = s.few in let t = c.requires.1 in omega arith

pub lose_from-requires : goal.lose_from-requires
lose_from-requires c = (let s = form_size c.args.table.now c.requires.0 in let w = s.whole in let t = c.requires.1 in omega arith, token_small c.args.table.now c.args.i c.args.types c.requires.0 c.requires.1 (slot_is c.read_slot.ensures ∙ ap slot_of (lent_part (width * (c.args.i + 1)) width c.args.table.now)) c.in-Held.is (λ k. (c.slice_known-1.given k).fits), c.requires.2)

pub returns-in-Free : goal.returns-in-Free
returns-in-Free c = no_token c.args.table.now c.args.i c.args.types c.requires.0 c.requires.1 (slot_is c.read_slot.ensures ∙ ap slot_of (lent_part (width * (c.args.i + 1)) width c.args.table.now)) c.in-Free.is

pub returns-in-Held : goal.returns-in-Held
returns-in-Held c = token_loses c.args.table.now c.args.i c.args.types c.requires.0 c.requires.1 (slot_is c.read_slot.ensures ∙ ap slot_of (lent_part (width * (c.args.i + 1)) width c.args.table.now)) c.in-Held.is (λ k. (c.slice_known-1.given k).fits) c.lose_from.ensures
