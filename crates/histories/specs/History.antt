-- A history: any calls on one lent table, one after the other, each as its own statement says.
use Rattle.std.specs.Prelude.{◌≡◌, Bool, true, false, List, [], ◌∷◌, ℕ, Result, Ok}
use Rattle.words.specs.Number.{Bytes}
use Rattle.words.specs.declared.refusal.Refusal.{Refusal}
use Rattle.claims.specs.declared.claim.Claim.{Claim}
use Rattle.table.specs.Layout.{Fits}
use Rattle.table.specs.Fill.{Fills}
use Rattle.tokens.specs.Grant.{Grants as GrantsUnjudged}
use Rattle.tokens.specs.Widest.{GrantsWidest as GrantsWidestUnjudged}
use Rattle.tokens.specs.declared.granting.Granted.{Granted}
use Rattle.tokens.specs.Ask.{Asks as AsksUnjudged}
use Rattle.returns.specs.Return.{Returns}
use Rattle.returns.specs.DropHost.{Drops}
use Rattle.audit.specs.Audit.{Audits}
use Rattle.access.specs.Access.{Access}
use Rattle.desk.specs.Grant.{Grants}
use Rattle.desk.specs.Widest.{GrantsWidest}
use Rattle.desk.specs.Ask.{Asks}

-- what a return is given besides the table
pub record Return : Type 0 where
  pub host : ℕ
  pub number : ℕ
  pub types : ℕ

-- any call that is lent a table, with all that it is given besides; unjudged are the calls with access apart
pub data Call : Type 0 where
  to_fill : Call
  to_ask : Claim → Access → List ℕ → Call
  to_ask_unjudged : Claim → List ℕ → Call
  to_grant : Claim → Access → Call
  to_grant_unjudged : Claim → Call
  to_grant_widest : Claim → Access → Call
  to_grant_widest_unjudged : Claim → Call
  to_return : Return → Call
  to_drop_host : ℕ → Call
  to_audit : Call

unfoldable pub is_fill : Call → Bool
is_fill to_fill = true
is_fill (to_ask claim access out) = false
is_fill (to_ask_unjudged claim out) = false
is_fill (to_grant claim access) = false
is_fill (to_grant_unjudged claim) = false
is_fill (to_grant_widest claim access) = false
is_fill (to_grant_widest_unjudged claim) = false
is_fill (to_return given) = false
is_fill (to_drop_host host) = false
is_fill to_audit = false

-- what a call answers: nothing more, a number or a count, a number and a range
abbrev pub Done : Type 0
Done = Result (Unit {0}) Refusal

abbrev pub Counted : Type 0
Counted = Result ℕ Refusal

abbrev pub Ranged : Type 0
Ranged = Result Granted Refusal

abbrev pub granted : ℕ → ℕ → ℕ → Granted
granted number first last = record { number = number; range = record { first = first; last = last } }

-- the table's bytes before and after a call, whatever it answers; ask and audit are lent them to read, so they stay
unfoldable pub Leaves : Call → List ℕ → List ℕ → Type 0
Leaves to_fill before after = (r : Done) × Fills before r after
Leaves (to_ask claim access out) before after = (after ≡ before) × (r : Counted) × (written : List ℕ) × Asks before claim access out r written
Leaves (to_ask_unjudged claim out) before after = (after ≡ before) × (r : Counted) × (written : List ℕ) × AsksUnjudged before claim out r written
Leaves (to_grant claim access) before after = Fits claim × (r : Counted) × Grants before claim access r after
Leaves (to_grant_unjudged claim) before after = Fits claim × (r : Counted) × GrantsUnjudged before claim r after
Leaves (to_grant_widest claim access) before after = Fits claim × (r : Ranged) × GrantsWidest before claim access r after
Leaves (to_grant_widest_unjudged claim) before after = Fits claim × (r : Ranged) × GrantsWidestUnjudged before claim r after
Leaves (to_return given) before after = (r : Done) × Returns before given.host given.number given.types r after
Leaves (to_drop_host host) before after = (r : Counted) × Drops before host r after
Leaves to_audit before after = (after ≡ before) × (r : Bool) × Audits before r

-- calls one after the other, of whatever kind
module _ {A : Type 0} (leaves : A → List ℕ → List ℕ → Type 0) where
  unfoldable pub RunsBy : List A → List ℕ → List ℕ → Type 0
  RunsBy [] before after = after ≡ before
  RunsBy (call ∷ calls) before after = (between : List ℕ) × leaves call before between × RunsBy calls between after

abbrev pub Runs : List Call → List ℕ → List ℕ → Type 0
Runs = RunsBy Leaves

-- what any calls make of a freshly filled table: any bytes are lent, a fill of them is done (so they are 41 × (1 + n), n from 1 to 1,024), and
-- the calls follow
pub record Reached (bytes : List ℕ) : Type 0 where
  pub lent : List ℕ
  pub fresh : List ℕ
  pub fill : Fills lent (Ok tt) fresh
  pub calls : List Call
  pub runs : Runs calls fresh bytes

-- what any calls make of bytes to which the audit says yes, such as a table that was kept on disk and is loaded again
pub record Resumed (bytes : List ℕ) : Type 0 where
  pub kept : List ℕ
  pub lent : Bytes kept
  pub audit : Audits kept true
  pub calls : List Call
  pub runs : Runs calls kept bytes

-- a grant that is done, and the number that it gives
pub data Gives (before : List ℕ) (number : ℕ) (after : List ℕ) : Type 0 where
  judged : (claim : Claim) (access : Access) → Fits claim → Grants before claim access (Ok number) after → Gives before number after
  unjudged : (claim : Claim) → Fits claim → GrantsUnjudged before claim (Ok number) after → Gives before number after
  widest : (claim : Claim) (access : Access) (first last : ℕ) → Fits claim → GrantsWidest before claim access (Ok (granted number first last)) after → Gives before number after
  widest_unjudged : (claim : Claim) (first last : ℕ) → Fits claim → GrantsWidestUnjudged before claim (Ok (granted number first last)) after → Gives before number after
