-- A contract of the crate's own: a refusal by access is said after 30 and 31.
use Rattle.std.specs.Prelude.{◌≡◌, List, ℕ}
use Rattle.words.specs.Said.{and_then}
use Rattle.claims.specs.declared.claim.Claim.{Claim}
use Rattle.words.specs.Refusal.{refusal_says}
use Rattle.words.specs.declared.refusal.Refusal.{Refusal}
use Rattle.table.specs.Call.{says_of}
use Rattle.tokens.specs.Grant.{request_says}

pub record Refuses (bytes : List ℕ) (claim : Claim) (verdict r : Refusal) : Type 0 where
  pub answer : refusal_says r ≡ says_of (λ t. and_then (request_says claim t) (refusal_says verdict)) bytes
