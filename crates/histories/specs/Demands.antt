-- The customer's demands: of every call, and of every table that calls reach.
use Rattle.std.specs.Prelude.{◌≡◌, Bool, true, false, ◌≢◌, ◌↔◌, ℕ, ◌*◌, ◌≤◌, ◌<◌, length, Result, Ok}
use mathlib.Core.List.{List, [], map, Memᴰ}
use Rattle.std.specs.Borrow.{Bor}
use Rattle.words.specs.Test.{any_of}
use Rattle.words.specs.Said.{Said, done, refused, is_done}
use Rattle.words.specs.Refusal.{plain_says, number_says}
use Rattle.words.specs.declared.refusal.Refusal.{Refusal}
use Rattle.records.specs.Reading.{Read, read_says, ReadsRecord}
use Rattle.list.specs.Walking.{Step, step_says, Steps}
use Rattle.list.specs.declared.walk.Walk.{Walk}
use Rattle.evaluate.specs.Evaluation.{evaluated_as, Checks, Evaluates}
use Rattle.evaluate.specs.declared.asking.Caller.{Caller}
use Rattle.evaluate.specs.declared.asking.File.{File}
use Rattle.evaluate.specs.declared.evaluation.Found.{Found}
use Rattle.rights.specs.Deciding.{decided, decision_says, Finds, Decides}
use Rattle.rights.specs.declared.decision.Decision.{Decision}
use Rattle.rights.specs.declared.guard.Guard.{Guard}
use Rattle.entry.specs.Plan.{plan_says, PlansPut, PlansDrop}
use Rattle.entry.specs.declared.entries.Entry.{Entry as TheEntry}
use Rattle.entry.specs.declared.planning.Plan.{Plan}
use Rattle.edit.specs.Editing.{Puts, Drops as DropsEntry}
use Rattle.claims.specs.Claim.{malformed}
use Rattle.claims.specs.Rule.{Conflicting}
use Rattle.claims.specs.declared.claim.Claim.{Claim}
use Rattle.table.specs.Table.{limit}
use Rattle.table.specs.Layout.{table_of}
use Rattle.table.specs.Form.{well_formed}
use Rattle.table.specs.Fill.{Fills}
use Rattle.table.specs.declared.slot.Slot.TheVariants.{Held}
use Rattle.surveys.specs.Survey.{survey_says, survey_wide_says, Surveys, SurveysWide}
use Rattle.surveys.specs.declared.scan.Seen.{Seen}
use Rattle.surveys.specs.declared.wide.SeenWide.{SeenWide}
use Rattle.tokens.specs.Grant.{room_says, Grants as GrantsUnjudged}
use Rattle.tokens.specs.Widest.{widest_says, GrantsWidest as GrantsWidestUnjudged}
use Rattle.tokens.specs.Ask.{Asks as AsksUnjudged}
use Rattle.returns.specs.Return.{Returns}
use Rattle.returns.specs.DropHost.{Drops}
use Rattle.audit.specs.Audit.{Audits}
use Rattle.access.specs.Access.{Access, access_says, Judges}
use Rattle.desk.specs.Grant.{Grants}
use Rattle.desk.specs.Widest.{GrantsWidest}
use Rattle.desk.specs.Ask.{Asks}
use Rattle.exchange.specs.Answer.{truth_says}
use Rattle.histories.specs.Shape.{Shape, is_answer, is_answer_or_end, of_read, of_step, of_check, of_evaluate, of_rights, of_judge, of_plan_put, of_plan_drop, of_put, of_drop, of_fill, of_ask, of_ask_unjudged, of_grant, of_grant_unjudged, of_grant_widest, of_grant_widest_unjudged, of_return, of_drop_host, of_survey, of_survey_wide, of_audit}
use Rattle.histories.specs.History.{Call, Done, Counted, Ranged, is_fill, Runs, Reached, Resumed, Gives}
use Rattle.histories.specs.Callback.{slot_at, Item, Holds, Entry, entries_in, Listed, Turn, givens, Returned, GivenBack, return_of, Reordered, Split, return_one, Singly}

-- "every call ends with an answer or a numbered refusal of 01's table, and a refusal leaves every lent byte as it was": of a call that is lent
-- a buffer to change
pub record Ends (s : Shape) (said : Said) (before after : List ℕ) : Type 0 where
  pub answers : is_answer s said ≡ true
  pub unchanged : is_done said ≡ false → after ≡ before

-- demand 1, of every call by its own statement; those that are lent bytes only to read can change none
pub record Demand1 : Type 0 where
  pub check : (list : List ℕ) (r : Done) → Checks list r → is_answer of_check (plain_says r) ≡ true
  pub read_record : (tail : List ℕ) (r : Read) → ReadsRecord tail r → is_answer_or_end of_read (read_says r) ≡ true
  pub step : (walk : Walk) (list : List ℕ) (r : Step) → Steps walk list r → is_answer_or_end of_step (step_says r) ≡ true
  pub evaluate : (list groups : List ℕ) (caller : Caller) (file : File) (r : Result Found Refusal) → Evaluates list groups caller file r → is_answer of_evaluate (evaluated_as r).says ≡ true
  pub decide : (list groups : List ℕ) (caller : Caller) (file : File) (guard : Guard) (r : Result Found Refusal) → Finds (decided list groups caller file guard) r
      → is_answer of_rights (evaluated_as r).says ≡ true
  pub rights : (list : Bor (List ℕ)) (groups : List ℕ) (caller : Caller) (file : File) (guard : Guard) (r : Decision) → Decides (decided list.now groups caller file guard) list r
      → is_answer of_rights (decision_says r) ≡ true
  pub judge : (access : Access) (types : ℕ) (r : Done) → Judges access types r → is_answer of_judge (plain_says r) ≡ true
  pub plan_put : (list : List ℕ) (entry : TheEntry) (r : Result Plan Refusal) → PlansPut list entry r → is_answer of_plan_put (plan_says r) ≡ true
  pub plan_drop : (list : List ℕ) (entry : TheEntry) (r : Result Plan Refusal) → PlansDrop list entry r → is_answer of_plan_drop (plan_says r) ≡ true
  pub survey : (bytes : List ℕ) (claim : Claim) (r : Result Seen Refusal) → Surveys bytes claim r → is_answer of_survey (survey_says r) ≡ true
  pub survey_wide : (bytes : List ℕ) (claim : Claim) (r : Result SeenWide Refusal) → SurveysWide bytes claim r → is_answer of_survey_wide (survey_wide_says r) ≡ true
  pub audit : (bytes : List ℕ) (r : Bool) → Audits bytes r → is_answer of_audit (truth_says r) ≡ true
  pub put : (list out after : List ℕ) (entry : TheEntry) (r : Counted) → Puts list entry out r after → Ends of_put (number_says r) out after
  pub drop_entry : (list out after : List ℕ) (entry : TheEntry) (r : Counted) → DropsEntry list entry out r after → Ends of_drop (number_says r) out after
  pub fill : (bytes after : List ℕ) (r : Done) → Fills bytes r after → Ends of_fill (plain_says r) bytes after
  pub ask : (bytes out after : List ℕ) (claim : Claim) (access : Access) (r : Counted) → Asks bytes claim access out r after → Ends of_ask (number_says r) out after
  pub ask_unjudged : (bytes out after : List ℕ) (claim : Claim) (r : Counted) → AsksUnjudged bytes claim out r after → Ends of_ask_unjudged (number_says r) out after
  pub grant : (bytes after : List ℕ) (claim : Claim) (access : Access) (r : Counted) → Grants bytes claim access r after → Ends of_grant (number_says r) bytes after
  pub grant_unjudged : (bytes after : List ℕ) (claim : Claim) (r : Counted) → GrantsUnjudged bytes claim r after → Ends of_grant_unjudged (number_says r) bytes after
  pub grant_widest : (bytes after : List ℕ) (claim : Claim) (access : Access) (r : Ranged) → GrantsWidest bytes claim access r after → Ends of_grant_widest (widest_says r) bytes after
  pub grant_widest_unjudged : (bytes after : List ℕ) (claim : Claim) (r : Ranged) → GrantsWidestUnjudged bytes claim r after
      → Ends of_grant_widest_unjudged (widest_says r) bytes after
  pub give_back : (bytes after : List ℕ) (host number types : ℕ) (r : Done) → Returns bytes host number types r after → Ends of_return (plain_says r) bytes after
  pub drop_host : (bytes after : List ℕ) (host : ℕ) (r : Counted) → Drops bytes host r after → Ends of_drop_host (number_says r) bytes after

-- "from a freshly filled table, after any calls, no two hosts hold conflicting tokens"
pub record NoTwoConflict (bytes : List ℕ) : Type 0 where
  pub is_well_formed : well_formed bytes ≡ true
  pub nothing_conflicts : (i j number other : ℕ) (a b : Claim) → slot_at (table_of bytes) i ≡ Held number a → slot_at (table_of bytes) j ≡ Held other b → (x y : ℕ) → Conflicting a b x y → ⊥
  pub numbers_differ : (i j number other : ℕ) (a b : Claim) → slot_at (table_of bytes) i ≡ Held number a → slot_at (table_of bytes) j ≡ Held other b → i ≢ j → number ≢ other
  pub below_next : (i number : ℕ) (a : Claim) → slot_at (table_of bytes) i ≡ Held number a → number < (table_of bytes).next
  pub audit_yes : (r : Bool) → Audits bytes r → r ≡ true

-- the request made again, after returns and no other call between: what a grant of it says, by an access that permits it
pub record Again (bytes : List ℕ) (claim : Claim) (turns : List Turn) (present : List ℕ) (said : Said) : Type 0 where
  pub returned : Returned turns bytes present
  pub access : Access
  pub permitted : access_says access claim.types ≡ done []
  pub reply : Counted
  pub after : List ℕ
  pub grant : Grants present claim access reply after
  pub says : said ≡ number_says reply

-- granted under its number, or refused only for room (33) or spent numbers (34), and that only where they are wanting
abbrev pub Served : List ℕ → Said → Type 0
Served present said = said ≡ room_says (table_of present)

-- none of the returns was refused, and the request is served
abbrev pub AllDone : List Turn → List ℕ → Said → Type 0
AllDone turns present said = ((turn : Turn) → Memᴰ turn turns → turn.reply ≡ Ok tt) × Served present said

-- a listed type of a listed token is still held
pub record StillHeld (list : List Entry) (present : List ℕ) : Type 0 where
  pub item : Item
  pub listed : Listed list item
  pub held : Holds (table_of present) item

-- "the list of types to call back is the least that serves": of the request made again after any returns, refused or not
pub record LeastThatServes (list : List Entry) (turns : List Turn) (present : List ℕ) (said : Said) : Type 0 where
  -- refused for conflict exactly when a listed type is still held, and otherwise served
  pub exactly : (said ≡ refused 32 []) ↔ StillHeld list present
  pub otherwise : said ≢ refused 32 [] → Served present said
  -- "once each is returned, in any order, with no other call between, the request is granted or refused only for room or spent numbers"
  pub once_returned : ((x : Item) → Listed list x → GivenBack turns x) → Served present said
  -- "while one is still held, it is refused for conflict"
  pub while_held : (x : Item) → Listed list x → Holds (table_of present) x → said ≡ refused 32 []
  -- the least: returns that leave out a listed type do not serve
  pub least : Served present said → (x : Item) → Listed list x → GivenBack turns x
  -- where the returns are one for each entry, in any order: none of them is refused, and the request is served
  pub in_any_order : (es : List Entry) → Reordered es list → givens turns ≡ map return_of es → AllDone turns present said
  -- and so where the returns are one for each type of each entry, in any order and mixed
  pub type_by_type : (xs : List Item) → Singly list xs → givens turns ≡ map return_one xs → AllDone turns present said
  -- and however else they are split
  pub split : Split list (givens turns) → AllDone turns present said

-- demand 2, of every table that calls reach
abbrev pub Demand2Of : (List ℕ → Type 0) → Type 0
Demand2Of reached = (bytes : List ℕ) → reached bytes → NoTwoConflict bytes

abbrev pub Demand2 : Type 0
Demand2 = Demand2Of Reached

-- demand 3, of every table that calls reach and every ask that is done there: its list is read off the bytes that it wrote
abbrev pub Demand3Of : (List ℕ → Type 0) → Type 0
Demand3Of reached = (bytes : List ℕ) → reached bytes
    → (claim : Claim) (access : Access) (out : List ℕ) (count : ℕ) (after : List ℕ) → Asks bytes claim access out (Ok count) after
    → (turns : List Turn) (present : List ℕ) (said : Said) → Again bytes claim turns present said
    → LeastThatServes (entries_in count after) turns present said

abbrev pub Demand3 : Type 0
Demand3 = Demand3Of Reached

-- and there is always a list to speak of: in any well-formed table an ask of a well-formed request that is permitted is done if its buffer has
-- thirteen bytes for each of the table's slots
abbrev pub AskIsDone : Type 0
AskIsDone = (bytes : List ℕ) → well_formed bytes ≡ true → (claim : Claim) → malformed claim (limit (table_of bytes)) ≡ false
    → (access : Access) → access_says access claim.types ≡ done [] → (out : List ℕ) → 13 * length (table_of bytes).slots ≤ length out
    → (r : Counted) (after : List ℕ) → Asks bytes claim access out r after → (count : ℕ) × (r ≡ Ok count)

-- numbers are given once: of two grants in a history with no fill between them, whatever was returned or dropped between, the later number is
-- the greater
abbrev pub NumbersOnceOf : (List ℕ → Type 0) → Type 0
NumbersOnceOf reached = (bytes : List ℕ) → reached bytes → (number : ℕ) (after : List ℕ) → Gives bytes number after
    → (calls : List Call) → any_of is_fill calls ≡ false → (later : List ℕ) → Runs calls after later
    → (other : ℕ) (last : List ℕ) → Gives later other last → number < other

abbrev pub NumbersOnce : Type 0
NumbersOnce = NumbersOnceOf Reached

-- all three hold as well of what calls make of a table to which the audit says yes, wherever its bytes came from
pub record Resuming : Type 0 where
  pub demand2 : Demand2Of Resumed
  pub demand3 : Demand3Of Resumed
  pub numbers_once : NumbersOnceOf Resumed
