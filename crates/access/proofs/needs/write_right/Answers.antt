use mathlib.Core.Path.{refl}
use Rattle.rights.specs.Right.{write, insert, delete}
use Rattle.access.proofs.needs.write_right.Goals as goal

pub returns-then-dir : goal.returns-then-dir
unfolding write insert delete
returns-then-dir c = rw c.if-dir.true refl

pub returns-else-dir : goal.returns-else-dir
unfolding write insert delete
returns-else-dir c = rw c.if-dir.false refl
