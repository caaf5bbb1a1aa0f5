-- Ask with access judged.
use Rattle.std.specs.Prelude.{◌≡◌, List, ℕ, Result}
use Rattle.words.specs.Said.{Said, left}
use Rattle.claims.specs.declared.claim.Claim.{Claim}
use Rattle.table.specs.Table.{Table}
use Rattle.table.specs.Layout.{table_of}
use Rattle.words.specs.Refusal.{number_says}
use Rattle.words.specs.declared.refusal.Refusal.{Refusal}
use Rattle.table.specs.Call.{says_of}
use Rattle.tokens.specs.Ask.{list_for, list_says}
use Rattle.access.specs.Access.{Access, access_says}
use Rattle.desk.specs.Order.{judged_says}

unfoldable pub ask_says : Claim → Access → List ℕ → Table → Said
ask_says claim access out = judged_says claim (access_says access claim.types) (list_says claim out)

-- asking what is in the way
pub record Asks (bytes : List ℕ) (claim : Claim) (access : Access) (out : List ℕ) (r : Result ℕ Refusal) (after : List ℕ) : Type 0 where
  pub answer : number_says r ≡ says_of (ask_says claim access out) bytes
  pub out_after : after ≡ left (says_of (ask_says claim access out) bytes) (list_for claim (table_of bytes)) out
