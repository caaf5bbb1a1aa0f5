-- The widest grant with access judged.
use Rattle.std.specs.Prelude.{List, ℕ, Result}
use Rattle.claims.specs.declared.claim.Claim.{Claim}
use Rattle.words.specs.declared.refusal.Refusal.{Refusal}
use Rattle.tokens.specs.declared.granting.Granted.{Granted}
use Rattle.tokens.specs.Widest.{widest_says, Widened}
use Rattle.access.specs.Access.{Access}
use Rattle.desk.specs.Grant.{grant_says}

-- granting a token with the widest range
pub record GrantsWidest (bytes : List ℕ) (claim : Claim) (access : Access) (r : Result Granted Refusal) (after : List ℕ) : Type 0 where
  pub outcome : Widened (grant_says claim access) bytes claim (widest_says r) after
