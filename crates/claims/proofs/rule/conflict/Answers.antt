use mathlib.Core.Path.{◌≡◌, sym, ◌∙◌}
use mathlib.Core.Bool.{true, not}
use borrow.Author.Tests.{ne_eqb, not-true, not-false}
use lib.Dec.{eqb}
use Rattle.words.proofs.Tests.{and_both}
use Rattle.claims.specs.Rule.{same_file}
use Rattle.claims.proofs.Symmetry.{one_host, two_files}
use Rattle.claims.proofs.Masks.{both_masks}
use Rattle.claims.proofs.rule.conflict.Goals as goal

pub returns-then-a-b : goal.returns-then-a-b
returns-then-a-b c = record { answer = sym (one_host c.args.a c.args.b c.if-a-b.true) }

pub returns-then-ne : goal.returns-then-ne
unfolding same_file
returns-then-ne c = record { answer = sym (two_files c.args.a c.args.b (not-true (same_file c.args.a.file c.args.b.file) (sym c.ne.ensures ∙ c.if-ne.true))) }

pub returns : goal.returns
unfolding same_file
returns c =
    let h : not (eqb c.args.a.host c.args.b.host) ≡ true = rw (ne_eqb c.args.a.host c.args.b.host c.if-a-b.false) in
    let f = not-false (same_file c.args.a.file c.args.b.file) (sym c.ne.ensures ∙ c.if-ne.false) in
    record { answer = rw (c.against_types.ensures, c.reached.ensures, c.overlap.ensures) (both_masks c.args.a c.args.b (and_both (not (eqb c.args.a.host c.args.b.host)) (same_file c.args.a.file c.args.b.file) h f)) }
