use mathlib.Core.Path.{refl, sym, ◌∙◌}
use native.Mathlib.Omega.{arith}
use borrow.Author.Rules.{rules}
use lib.ListN.{get_or}
use Rattle.records.specs.Kind.{body, bodies, body_of}
use Rattle.records.proofs.Bodies.{every_below, body_is, among, in_range, beyond}
use Rattle.records.proofs.Tails.{no_body, none, some}
use Rattle.records.proofs.records.read_record.Goals as goal

pub returns-then-is_empty : goal.returns-then-is_empty
returns-then-is_empty c = none _ (sym c.is_empty.ensures ∙ c.if-is_empty.true)

pub returns-then-kind-lt-DEFAULT_REALM : goal.returns-then-kind-lt-DEFAULT_REALM
unfolding every_below body_is among body_of bodies body
returns-then-kind-lt-DEFAULT_REALM c = some _ (sym c.is_empty.ensures ∙ c.if-is_empty.false) (no_body _ _ (in_range 0 0 (body 0 0 0) refl _ (omega arith) (omega arith)))

pub read_as-requires : goal.read_as-requires
unfolding every_below body_is among body_of bodies body
read_as-requires c = (in_range 1 1 (body 16 0 0) refl (get_or c.args.tail.now 0 0) (omega arith) (omega arith), search rules, search rules)

pub returns-then-kind-lt-USER_OBJ : goal.returns-then-kind-lt-USER_OBJ
returns-then-kind-lt-USER_OBJ c = some _ (sym c.is_empty.ensures ∙ c.if-is_empty.false) c.read_as.ensures

pub read_as-requires-then-kind-le-ANY_OTHER : goal.read_as-requires-then-kind-le-ANY_OTHER
unfolding every_below body_is among body_of bodies body
read_as-requires-then-kind-le-ANY_OTHER c = (in_range 2 6 (body 0 0 1) refl (get_or c.args.tail.now 0 0) (omega arith) (omega arith), search rules, search rules)

pub returns-then-kind-le-ANY_OTHER : goal.returns-then-kind-le-ANY_OTHER
returns-then-kind-le-ANY_OTHER c = some _ (sym c.is_empty.ensures ∙ c.if-is_empty.false) c.read_as-then-kind-le-ANY_OTHER.ensures

pub read_as-requires-then-kind-le-GROUP : goal.read_as-requires-then-kind-le-GROUP
unfolding every_below body_is among body_of bodies body
read_as-requires-then-kind-le-GROUP c = (in_range 7 8 (body 0 4 1) refl (get_or c.args.tail.now 0 0) (omega arith) (omega arith), search rules, search rules)

pub returns-then-kind-le-GROUP : goal.returns-then-kind-le-GROUP
returns-then-kind-le-GROUP c = some _ (sym c.is_empty.ensures ∙ c.if-is_empty.false) c.read_as-then-kind-le-GROUP.ensures

pub read_as-requires-then-kind-le-FOREIGN_GROUP : goal.read_as-requires-then-kind-le-FOREIGN_GROUP
unfolding every_below body_is among body_of bodies body
read_as-requires-then-kind-le-FOREIGN_GROUP c = (in_range 9 10 (body 16 4 1) refl (get_or c.args.tail.now 0 0) (omega arith) (omega arith), search rules, search rules)

pub returns-then-kind-le-FOREIGN_GROUP : goal.returns-then-kind-le-FOREIGN_GROUP
returns-then-kind-le-FOREIGN_GROUP c = some _ (sym c.is_empty.ensures ∙ c.if-is_empty.false) c.read_as-then-kind-le-FOREIGN_GROUP.ensures

pub read_as-requires-then-kind-le-FOREIGN_OTHER : goal.read_as-requires-then-kind-le-FOREIGN_OTHER
unfolding every_below body_is among body_of bodies body
read_as-requires-then-kind-le-FOREIGN_OTHER c = (in_range 11 11 (body 16 0 1) refl (get_or c.args.tail.now 0 0) (omega arith) (omega arith), search rules, search rules)

pub returns-then-kind-le-FOREIGN_OTHER : goal.returns-then-kind-le-FOREIGN_OTHER
returns-then-kind-le-FOREIGN_OTHER c = some _ (sym c.is_empty.ensures ∙ c.if-is_empty.false) c.read_as-then-kind-le-FOREIGN_OTHER.ensures

pub returns : goal.returns
returns c = some _ (sym c.is_empty.ensures ∙ c.if-is_empty.false) (no_body _ _ (beyond _ c.if-kind-le-FOREIGN_OTHER.false))
