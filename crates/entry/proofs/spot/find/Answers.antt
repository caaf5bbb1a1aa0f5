use native.Mathlib.Omega.{arith}
use borrow.Author.Rules.{part_to_end}
use Rattle.entry.proofs.Spots.{first_of, starts, is_entry_kind, enough, goes_on, goes, stops_same, stops_after, spotted, ends}
use Rattle.entry.proofs.spot.find.Goals as goal

pub loop-at-init : goal.loop-at-init
unfolding spotted
loop-at-init c = starts _ _ (λ i. (c.type_inv.list i).fits) c.requires.0 c.requires.1

pub side_of-requires : goal.side_of-requires
unfolding spotted
side_of-requires c = rw part_to_end (is_entry_kind c.loop-at.invariant c.loop-at-test.true, enough c.loop-at.invariant c.loop-at-test.true)

pub size_of-at-requires : goal.size_of-at-requires
unfolding spotted
size_of-at-requires c = rw (first_of c.args.list.now c.loop-at.at) (is_entry_kind c.loop-at.invariant c.loop-at-test.true)

pub overflow_add-at : goal.overflow_add-at
unfolding spotted
overflow_add-at c = let g = goes_on c.loop-at.invariant c.loop-at-test.true (rw (first_of c.args.list.now c.loop-at.at) at c.size_of-at.ensures) in omega arith

pub loop-at-smaller : goal.loop-at-smaller
unfolding spotted
loop-at-smaller c = let g = goes_on c.loop-at.invariant c.loop-at-test.true (rw (first_of c.args.list.now c.loop-at.at) at c.size_of-at.ensures) in omega arith

pub loop-at-preserved : goal.loop-at-preserved
unfolding spotted
loop-at-preserved c = goes c.loop-at.invariant c.loop-at-test.true (rw (first_of c.args.list.now c.loop-at.at) at c.size_of-at.ensures) (rw part_to_end at c.side_of.ensures) c.in-Less.is

pub size_of-requires : goal.size_of-requires
unfolding spotted
size_of-requires c = rw (first_of c.args.list.now c.loop-at.at) (is_entry_kind c.loop-at.invariant c.loop-at-test.true)

pub returns-in-Equal : goal.returns-in-Equal
unfolding spotted
returns-in-Equal c = stops_same c.loop-at.invariant c.loop-at-test.true (rw part_to_end at c.side_of.ensures) c.requires.1 c.in-Equal.is (rw (first_of c.args.list.now c.loop-at.at) at c.size_of.ensures)

pub returns-in-Greater : goal.returns-in-Greater
unfolding spotted
returns-in-Greater c = stops_after c.loop-at.invariant c.loop-at-test.true (rw part_to_end at c.side_of.ensures) c.requires.1 c.in-Greater.is

pub returns : goal.returns
unfolding spotted
returns c = ends c.loop-at.invariant c.loop-at-test.false
