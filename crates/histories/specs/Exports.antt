-- The same of the calls for C: a history of exports, each as its own statement says, and the demands read off the bytes and the answers that C has.
use Rattle.std.specs.Prelude.{◌≡◌, true, false, not, List, [], ◌∷◌, map, ◌⊎◌, ◌≢◌, ℕ, ◌*◌, ◌^◌, ◌≤◌, ◌<◌, eqb, length, take, if◌then◌else◌, Ok, Err}
use Rattle.words.specs.Test.{any_of}
use Rattle.words.specs.Said.{Said, done, refused}
use Rattle.words.specs.Refusal.{refusal_of}
use Rattle.words.specs.Number.{Bytes}
use Rattle.claims.specs.Claim.{malformed}
use Rattle.table.specs.Table.{limit}
use Rattle.table.specs.Layout.{table_of}
use Rattle.table.specs.Form.{well_formed}
use Rattle.access.specs.Access.{Access, access_says}
use Rattle.exchange.specs.Answer.{answer_for}
use Rattle.exchange.specs.Given.{claim_of}
use Rattle.exchange.specs.declared.answer.Answer.{Answer}
use Rattle.exchange.specs.declared.given.Caller.{Caller}
use Rattle.exchange.specs.declared.given.Claim.{Claim}
use Rattle.exchange.specs.declared.given.Entry.{Entry}
use Rattle.exchange.specs.declared.given.File.{File}
use Rattle.mastarik.specs.Lists.{Checks, decided_for, GivesRights, Puts, Drops}
use Rattle.mastarik.specs.Tables.{Fills, Asks, Grants, GrantsWidest, Returns, DropsHost, Audits}
use Rattle.mastarik.specs.Types.{TellsNeeds}
use Rattle.histories.specs.Shape.{Shape, is_answer, of_check, of_rights, of_put, of_drop, of_fill, of_ask, of_grant, of_grant_widest, of_return, of_drop_host, of_audit, of_needs}
use Rattle.histories.specs.History.{Return, Call, Done, to_fill, to_ask, to_grant, to_grant_widest, to_return, to_drop_host, to_audit, is_fill, RunsBy, Reached, Resumed}
use Rattle.histories.specs.Callback.{entries_in, Turn}
use Rattle.histories.specs.Demands.{NoTwoConflict, LeastThatServes}
use Rattle.histories.specs.Widening.{Wider}

-- the way back from an answer to what the call said, by what that call can answer
unfoldable pub said_by : Shape → Answer → Said
said_by s a =
    if not (eqb a.refused 0) then (if any_of (eqb a.refused) s.valued then refused a.refused (a.detail ∷ []) else refused a.refused []) else
    done (take s.values (a.value ∷ a.first ∷ a.last ∷ []))

-- and to what it answered, where that is nothing more
unfoldable pub done_by : Answer → Done
done_by a = if not (eqb a.refused 0) then Err (refusal_of a.refused a.detail) else Ok tt

-- what a claim's fields hold by their types: two bytes, eight bytes, and twelve for the file
pub record Typed (claim : Claim) : Type 0 where
  pub types : claim.types < 256 ^ 2
  pub host : claim.host < 256 ^ 2
  pub twelve : length claim.file ≡ 12
  pub bytes : Bytes claim.file
  pub first : claim.first < 256 ^ 8
  pub last : claim.last < 256 ^ 8

-- any export that is lent a table, with all that it is given besides
pub data Export : Type 0 where
  fill : Export
  ask : Claim → Access → List ℕ → Export
  grant : Claim → Access → Export
  grant_widest : Claim → Access → Export
  give_back : Return → Export
  drop_host : ℕ → Export
  audit : Export

-- the table's bytes before and after an export, whatever it answers; ask and audit are lent them to read, so they stay
unfoldable pub ExportLeaves : Export → List ℕ → List ℕ → Type 0
ExportLeaves fill before after = (a : Answer) × Fills before a after
ExportLeaves (ask claim access out) before after = (after ≡ before) × (a : Answer) × (written : List ℕ) × Asks before claim access out a written
ExportLeaves (grant claim access) before after = Typed claim × (a : Answer) × Grants before claim access a after
ExportLeaves (grant_widest claim access) before after = Typed claim × (a : Answer) × GrantsWidest before claim access a after
ExportLeaves (give_back given) before after = (a : Answer) × Returns before given.host given.number given.types a after
ExportLeaves (drop_host host) before after = (a : Answer) × DropsHost before host a after
ExportLeaves audit before after = (after ≡ before) × (a : Answer) × Audits before a

abbrev pub ExportRuns : List Export → List ℕ → List ℕ → Type 0
ExportRuns = RunsBy ExportLeaves

-- what any exports make of a freshly filled table
pub record ReachedInC (bytes : List ℕ) : Type 0 where
  pub lent : List ℕ
  pub fresh : List ℕ
  pub answer : Answer
  pub fill : Fills lent answer fresh
  pub done : answer.refused ≡ 0
  pub exports : List Export
  pub runs : ExportRuns exports fresh bytes

-- what any exports make of bytes to which the audit says yes
pub record ResumedInC (bytes : List ℕ) : Type 0 where
  pub kept : List ℕ
  pub lent : Bytes kept
  pub answer : Answer
  pub audit : Audits kept answer
  pub yes : answer.value ≡ 1
  pub exports : List Export
  pub runs : ExportRuns exports kept bytes

-- the call that an export makes
unfoldable pub call_of : Export → Call
call_of fill = to_fill
call_of (ask claim access out) = to_ask (claim_of claim) access out
call_of (grant claim access) = to_grant (claim_of claim) access
call_of (grant_widest claim access) = to_grant_widest (claim_of claim) access
call_of (give_back given) = to_return given
call_of (drop_host host) = to_drop_host host
call_of audit = to_audit

-- a history of exports is a history, from a fill on or from an audit
abbrev pub ExportsAreCalls : Type 0
ExportsAreCalls = (bytes : List ℕ) → ReachedInC bytes → Reached bytes

abbrev pub ResumedAreCalls : Type 0
ResumedAreCalls = (bytes : List ℕ) → ResumedInC bytes → Resumed bytes

-- 0 and its value, with the range that was given, or a refusal that this call can give and its detail; beside them the deciding record, and
-- what is not used is 0
pub record Answered (s : Shape) (start size : ℕ) (a : Answer) : Type 0 where
  pub answers : is_answer s (said_by s a) ≡ true
  pub fields : a ≡ answer_for (said_by s a) start size

-- of a call that is lent a buffer to change
pub record EndsInC (s : Shape) (a : Answer) (before after : List ℕ) : Type 0 where
  pub answered : Answered s 0 0 a
  pub unchanged : a.refused ≢ 0 → after ≡ before

-- demand 1, of every export that gives an answer
pub record Demand1InC : Type 0 where
  pub check : (list : List ℕ) (a : Answer) → Checks list a → Answered of_check 0 0 a
  pub rights : (list groups : List ℕ) (caller : Caller) (file : File) (a : Answer) → GivesRights list groups caller file a
      → Answered of_rights (decided_for list groups caller file).start (decided_for list groups caller file).size a
  pub audit : (bytes : List ℕ) (a : Answer) → Audits bytes a → Answered of_audit 0 0 a
  pub needs : (types dir : ℕ) (a : Answer) → TellsNeeds types dir a → Answered of_needs 0 0 a
  pub put : (list out after : List ℕ) (entry : Entry) (a : Answer) → Puts list entry out a after → EndsInC of_put a out after
  pub drop_entry : (list out after : List ℕ) (entry : Entry) (a : Answer) → Drops list entry out a after → EndsInC of_drop a out after
  pub fill : (bytes after : List ℕ) (a : Answer) → Fills bytes a after → EndsInC of_fill a bytes after
  pub ask : (bytes out after : List ℕ) (claim : Claim) (access : Access) (a : Answer) → Asks bytes claim access out a after → EndsInC of_ask a out after
  pub grant : (bytes after : List ℕ) (claim : Claim) (access : Access) (a : Answer) → Grants bytes claim access a after → EndsInC of_grant a bytes after
  pub grant_widest : (bytes after : List ℕ) (claim : Claim) (access : Access) (a : Answer) → GrantsWidest bytes claim access a after → EndsInC of_grant_widest a bytes after
  pub give_back : (bytes after : List ℕ) (host number types : ℕ) (a : Answer) → Returns bytes host number types a after → EndsInC of_return a bytes after
  pub drop_host : (bytes after : List ℕ) (host : ℕ) (a : Answer) → DropsHost bytes host a after → EndsInC of_drop_host a bytes after

-- demand 2, of every table that exports reach; and the audit answers 1
abbrev pub Demand2InCOf : (List ℕ → Type 0) → Type 0
Demand2InCOf reached = (bytes : List ℕ) → reached bytes → NoTwoConflict bytes × ((a : Answer) → Audits bytes a → (a.refused ≡ 0) × (a.value ≡ 1))

abbrev pub Demand2InC : Type 0
Demand2InC = Demand2InCOf ReachedInC

-- a return and its answer
pub record TurnInC : Type 0 where
  pub given : Return
  pub answer : Answer

abbrev pub TurnLeavesInC : TurnInC → List ℕ → List ℕ → Type 0
TurnLeavesInC turn before after = Returns before turn.given.host turn.given.number turn.given.types turn.answer after

abbrev pub ReturnedInC : List TurnInC → List ℕ → List ℕ → Type 0
ReturnedInC = RunsBy TurnLeavesInC

abbrev pub turn_of : TurnInC → Turn
turn_of turn = record { given = turn.given; reply = done_by turn.answer }

-- the request made again, after returns and no other call between, by an access that permits it
pub record AgainInC (bytes : List ℕ) (claim : Claim) (turns : List TurnInC) (present : List ℕ) (a : Answer) : Type 0 where
  pub returned : ReturnedInC turns bytes present
  pub access : Access
  pub permitted : access_says access claim.types ≡ done []
  pub after : List ℕ
  pub grant : Grants present claim access a after

-- demand 3, of every table that exports reach: the list is read off the bytes that an ask wrote which answered 0, as many entries as its value
abbrev pub Demand3InCOf : (List ℕ → Type 0) → Type 0
Demand3InCOf reached = (bytes : List ℕ) → reached bytes
    → (claim : Claim) (access : Access) (out : List ℕ) (a : Answer) (after : List ℕ) → Asks bytes claim access out a after → a.refused ≡ 0
    → (turns : List TurnInC) (present : List ℕ) (again : Answer) → AgainInC bytes claim turns present again
    → LeastThatServes (entries_in a.value after) (map turn_of turns) present (said_by of_grant again)

abbrev pub Demand3InC : Type 0
Demand3InC = Demand3InCOf ReachedInC

-- in any well-formed table an ask of a well-formed request that is permitted answers 0 if its buffer has thirteen bytes for each of the table's
-- slots
abbrev pub AskIsDoneInC : Type 0
AskIsDoneInC = (bytes : List ℕ) → well_formed bytes ≡ true → (claim : Claim) → malformed (claim_of claim) (limit (table_of bytes)) ≡ false
    → (access : Access) → access_says access claim.types ≡ done [] → (out : List ℕ) → 13 * length (table_of bytes).slots ≤ length out
    → (a : Answer) (after : List ℕ) → Asks bytes claim access out a after → a.refused ≡ 0

-- a grant that answers 0, with the asked range or the widest, and the number that it gives
pub record GivesInC (before : List ℕ) (number : ℕ) (after : List ℕ) : Type 0 where
  pub claim : Claim
  pub access : Access
  pub typed : Typed claim
  pub answer : Answer
  pub grant : Grants before claim access answer after ⊎ GrantsWidest before claim access answer after
  pub done : answer.refused ≡ 0
  pub number_is : answer.value ≡ number

-- numbers are given once since the fill
abbrev pub NumbersOnceInCOf : (List ℕ → Type 0) → Type 0
NumbersOnceInCOf reached = (bytes : List ℕ) → reached bytes → (number : ℕ) (after : List ℕ) → GivesInC bytes number after
    → (exports : List Export) → any_of is_fill (map call_of exports) ≡ false → (later : List ℕ) → ExportRuns exports after later
    → (other : ℕ) (last : List ℕ) → GivesInC later other last → number < other

abbrev pub NumbersOnceInC : Type 0
NumbersOnceInC = NumbersOnceInCOf ReachedInC

-- and all three of a table to which the audit says yes
pub record ResumingInC : Type 0 where
  pub demand2 : Demand2InCOf ResumedInC
  pub demand3 : Demand3InCOf ResumedInC
  pub numbers_once : NumbersOnceInCOf ResumedInC

-- the same claim over another range
abbrev pub ranged : Claim → ℕ → ℕ → Claim
ranged claim first last = record { types = claim.types; host = claim.host; file = claim.file; first = first; last = last }

-- of a widest grant that answers 0: a grant of the given range on the same bytes answers 0 and the same number, and leaves the same bytes; one of a
-- range that holds the asked one and does not lie within the given one answers 32
pub record WideningInC : Type 0 where
  pub as_grant : (bytes after : List ℕ) (claim : Claim) (access : Access) (a : Answer) → GrantsWidest bytes claim access a after → a.refused ≡ 0
      → (b : Answer) (later : List ℕ) → Grants bytes (ranged claim a.first a.last) access b later → (b.refused ≡ 0) × (b.value ≡ a.value) × (later ≡ after)
  pub no_wider : (bytes after : List ℕ) (claim : Claim) (access : Access) (a : Answer) → GrantsWidest bytes claim access a after → a.refused ≡ 0
      → (f l : ℕ) → Wider (claim_of claim) a.first a.last f l
      → (b : Answer) (later : List ℕ) → Grants bytes (ranged claim f l) access b later → (b.refused ≡ 32) × (later ≡ bytes)
