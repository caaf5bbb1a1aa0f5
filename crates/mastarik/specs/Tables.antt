-- The calls on a token table, as C has them.
use Rattle.std.specs.Prelude.{◌≡◌, List, ℕ}
use Rattle.words.specs.Said.{Said, left}
use Rattle.table.specs.Layout.{table_of, bytes_of, count}
use Rattle.table.specs.Fill.{filled, fill_says}
use Rattle.table.specs.Call.{says_of, left_of}
use Rattle.tokens.specs.Grant.{granted}
use Rattle.tokens.specs.Widest.{Widened}
use Rattle.tokens.specs.Ask.{list_for}
use Rattle.returns.specs.Return.{return_says, returned}
use Rattle.returns.specs.DropHost.{drop_says, dropped}
use Rattle.audit.specs.Audit.{sound}
use Rattle.access.specs.Access.{Access, access_of}
use Rattle.desk.specs.Grant.{grant_says}
use Rattle.desk.specs.Ask.{ask_says}
use Rattle.exchange.specs.Answer.{answer_of, truth_says}
use Rattle.exchange.specs.Given.{caller_of, file_of, guard_of, claim_of}
use Rattle.exchange.specs.declared.answer.Answer.{Answer}
use Rattle.exchange.specs.declared.given.Caller.{Caller}
use Rattle.exchange.specs.declared.given.Claim.{Claim}
use Rattle.exchange.specs.declared.given.File.{File}

-- what ask and the grants are judged by
unfoldable pub access_for : List ℕ → List ℕ → Caller → File → Access
access_for list groups caller file = access_of list groups (caller_of caller) (file_of file) (guard_of file)

-- filling a table
pub record Fills (bytes : List ℕ) (r : Answer) (after : List ℕ) : Type 0 where
  pub answer : r ≡ answer_of (fill_says bytes)
  pub table_after : after ≡ left (fill_says bytes) (bytes_of (filled (count bytes))) bytes

-- asking what is in the way
pub record Asks (bytes : List ℕ) (claim : Claim) (access : Access) (out : List ℕ) (r : Answer) (after : List ℕ) : Type 0 where
  pub answer : r ≡ answer_of (says_of (ask_says (claim_of claim) access out) bytes)
  pub out_after : after ≡ left (says_of (ask_says (claim_of claim) access out) bytes) (list_for (claim_of claim) (table_of bytes)) out

-- granting a token
pub record Grants (bytes : List ℕ) (claim : Claim) (access : Access) (r : Answer) (after : List ℕ) : Type 0 where
  pub answer : r ≡ answer_of (says_of (grant_says (claim_of claim) access) bytes)
  pub table_after : after ≡ left_of (grant_says (claim_of claim) access) (granted (claim_of claim)) bytes

-- granting a token with the widest range
pub record GrantsWidest (bytes : List ℕ) (claim : Claim) (access : Access) (r : Answer) (after : List ℕ) : Type 0 where
  pub said : Said
  pub answer : r ≡ answer_of said
  pub outcome : Widened (grant_says (claim_of claim) access) bytes (claim_of claim) said after

-- returning types of a token
pub record Returns (bytes : List ℕ) (host number types : ℕ) (r : Answer) (after : List ℕ) : Type 0 where
  pub answer : r ≡ answer_of (says_of (return_says host number types) bytes)
  pub table_after : after ≡ left_of (return_says host number types) (returned host number types) bytes

-- dropping a host
pub record DropsHost (bytes : List ℕ) (host : ℕ) (r : Answer) (after : List ℕ) : Type 0 where
  pub answer : r ≡ answer_of (says_of (drop_says host) bytes)
  pub table_after : after ≡ left_of (drop_says host) (dropped host) bytes

-- auditing a table
pub record Audits (bytes : List ℕ) (r : Answer) : Type 0 where
  pub answer : r ≡ answer_of (truth_says (sound bytes))
