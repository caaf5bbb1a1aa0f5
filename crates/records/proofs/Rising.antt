-- The order of two records of one kind. Assumes nothing.
use mathlib.Core.Path.{◌≡◌, sym, ◌∙◌}
use mathlib.Core.Bool.{Bool}
use borrow.Author.Tests.{ne_eqb}
use Rattle.words.proofs.Order.{tied}
use Rattle.records.specs.Standing.{body_rises, rises}
use Rattle.records.specs.declared.records.Record.{Record}

-- of one kind, but not the first
pub by_body : (p e : Record) → p.kind ≡ e.kind → (e.kind ≡ 1 → ⊥) → {b : Bool} → b ≡ body_rises p e → b ≡ rises p e
unfolding rises
by_body p e k many told = told ∙ sym (rw (tied p.kind e.kind _ k, ne_eqb e.kind 1 many))
