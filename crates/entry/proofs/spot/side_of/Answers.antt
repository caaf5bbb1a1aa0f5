use native.Mathlib.Omega.{arith}
use lib.ListN.{get_or}
use Rattle.records.specs.Reading.{record_of}
use Rattle.entry.proofs.Sides.{lower_kind, higher_kind, is_before, is_after, is_same}
use Rattle.entry.proofs.spot.side_of.Goals as goal

pub returns-then-kind-r : goal.returns-then-kind-r
unfolding record_of
returns-then-kind-r c = let t = c.args.tail.now in lower_kind (record_of (get_or t 0 0) t) c.args.r c.if-kind-r.true

pub returns-then-r-kind : goal.returns-then-r-kind
unfolding record_of
returns-then-r-kind c = let t = c.args.tail.now in higher_kind (record_of (get_or t 0 0) t) c.args.r c.if-r-kind.true

pub returns-then-bodies_in_order : goal.returns-then-bodies_in_order
unfolding record_of
returns-then-bodies_in_order c = let t = c.args.tail.now in is_before (record_of (get_or t 0 0) t) c.args.r (omega arith) c.requires.0 c.head_of-q.ensures c.bodies_in_order.ensures.answer c.if-bodies_in_order.true

pub returns-then-bodies_in_order-2 : goal.returns-then-bodies_in_order-2
unfolding record_of
returns-then-bodies_in_order-2 c = let t = c.args.tail.now in is_after (record_of (get_or t 0 0) t) c.args.r (omega arith) c.requires.0 c.head_of-q.ensures c.bodies_in_order.ensures.answer c.if-bodies_in_order.false c.bodies_in_order-2.ensures.answer c.if-bodies_in_order-2.true

pub returns : goal.returns
unfolding record_of
returns c = let t = c.args.tail.now in is_same (record_of (get_or t 0 0) t) c.args.r (omega arith) c.requires.0 c.head_of-q.ensures c.bodies_in_order.ensures.answer c.if-bodies_in_order.false c.bodies_in_order-2.ensures.answer c.if-bodies_in_order-2.false
