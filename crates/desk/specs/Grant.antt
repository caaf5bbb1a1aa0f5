-- Grant with access judged.
use Rattle.std.specs.Prelude.{◌≡◌, List, ℕ, Result}
use Rattle.words.specs.Said.{Said}
use Rattle.claims.specs.declared.claim.Claim.{Claim}
use Rattle.table.specs.Table.{Table}
use Rattle.words.specs.Refusal.{number_says}
use Rattle.words.specs.declared.refusal.Refusal.{Refusal}
use Rattle.table.specs.Call.{says_of, left_of}
use Rattle.tokens.specs.Grant.{serve_says, granted}
use Rattle.access.specs.Access.{Access, access_says}
use Rattle.desk.specs.Order.{judged_says}

unfoldable pub grant_says : Claim → Access → Table → Said
grant_says claim access = judged_says claim (access_says access claim.types) (serve_says claim)

-- granting a token
pub record Grants (bytes : List ℕ) (claim : Claim) (access : Access) (r : Result ℕ Refusal) (after : List ℕ) : Type 0 where
  pub answer : number_says r ≡ says_of (grant_says claim access) bytes
  pub table_after : after ≡ left_of (grant_says claim access) (granted claim) bytes
