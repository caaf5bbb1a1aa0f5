use mathlib.Core.Path.{refl, ◌∙◌}
use Rattle.audit.specs.Before.{slots_of}
use Rattle.audit.proofs.Pairs.{free_apart}
use Rattle.audit.proofs.auditing.is_clear.Goals as goal

pub returns-in-Free : goal.returns-in-Free
returns-in-Free c = rw c.in-Free.is (free_apart (slots_of c.args.before.now))

pub returns-in-Held : goal.returns-in-Held
returns-in-Held c = c.are_apart.ensures ∙ rw c.in-Held.is refl
