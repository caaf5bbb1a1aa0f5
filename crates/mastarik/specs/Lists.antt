-- The calls on an access list, as C has them.
use Rattle.std.specs.Prelude.{◌≡◌, List, ℕ}
use Rattle.words.specs.Said.{left}
use Rattle.list.specs.Checking.{check_says}
use Rattle.evaluate.specs.Evaluation.{Decided}
use Rattle.rights.specs.Deciding.{decided}
use Rattle.entry.specs.NewList.{putting, dropping}
use Rattle.edit.specs.Editing.{put_says, drop_says}
use Rattle.exchange.specs.Answer.{answer_for, answer_of}
use Rattle.exchange.specs.Given.{caller_of, file_of, guard_of, entry_of}
use Rattle.exchange.specs.declared.answer.Answer.{Answer}
use Rattle.exchange.specs.declared.given.Caller.{Caller}
use Rattle.exchange.specs.declared.given.Entry.{Entry}
use Rattle.exchange.specs.declared.given.File.{File}

-- checking a list
pub record Checks (list : List ℕ) (r : Answer) : Type 0 where
  pub answer : r ≡ answer_of (check_says list)

-- what is decided for a caller on a file
unfoldable pub decided_for : List ℕ → List ℕ → Caller → File → Decided
decided_for list groups caller file = decided list groups (caller_of caller) (file_of file) (guard_of file)

-- giving rights
pub record GivesRights (list groups : List ℕ) (caller : Caller) (file : File) (r : Answer) : Type 0 where
  pub answer : r ≡ answer_for (decided_for list groups caller file).says (decided_for list groups caller file).start (decided_for list groups caller file).size

-- putting an entry
pub record Puts (list : List ℕ) (entry : Entry) (out : List ℕ) (r : Answer) (after : List ℕ) : Type 0 where
  pub answer : r ≡ answer_of (put_says list (entry_of entry) out)
  pub out_after : after ≡ left (put_says list (entry_of entry) out) (putting list (entry_of entry)) out

-- dropping an entry
pub record Drops (list : List ℕ) (entry : Entry) (out : List ℕ) (r : Answer) (after : List ℕ) : Type 0 where
  pub answer : r ≡ answer_of (drop_says list (entry_of entry) out)
  pub out_after : after ≡ left (drop_says list (entry_of entry) out) (dropping list (entry_of entry)) out
