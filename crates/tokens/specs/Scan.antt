-- Contracts of the crate's own functions: a grant's refusal, its token, and the entries of ask's list.
use Rattle.std.specs.Prelude.{◌≡◌, true, Result, IfOk, IfErr, List, [], ◌∷◌, ◌≢◌, ℕ, ◌+◌, ◌<◌, length, if◌then◌else◌}
use Rattle.words.specs.Test.{place_of}
use Rattle.words.specs.Said.{done}
use Rattle.words.specs.Refusal.{refusal_says}
use Rattle.words.specs.declared.refusal.Refusal.{Refusal}
use Rattle.words.specs.Writing.{over}
use Rattle.claims.specs.declared.claim.Claim.{Claim}
use Rattle.table.specs.Table.{is_free, is_in_the_way}
use Rattle.table.specs.Layout.{count, table_of, bytes_of}
use Rattle.table.specs.Form.{well_formed}
use Rattle.table.specs.Call.{says_of}
use Rattle.table.specs.declared.slot.Slot.{Slot}
use Rattle.tokens.specs.Grant.{last_number, grant_says, granted}
use Rattle.tokens.specs.Ask.{entry_for}

-- the lowest free slot of a well-formed table, and a number left
pub record HasRoom (bytes : List ℕ) (free : ℕ) : Type 0 where
  pub formed : well_formed bytes ≡ true
  pub lowest : free ≡ place_of is_free (table_of bytes).slots
  pub inside : free < count bytes
  pub unspent : (table_of bytes).next ≢ last_number

-- the free slot that a grant takes, or its refusal
pub record Checks (bytes : List ℕ) (claim : Claim) (r : Result ℕ Refusal) : Type 0 where
  pub ok : IfOk r (λ free. HasRoom bytes free × (says_of (grant_says claim) bytes ≡ done ((table_of bytes).next ∷ [])))
  pub err : IfErr r (λ refusal. says_of (grant_says claim) bytes ≡ refusal_says refusal)

pub record Issues (bytes : List ℕ) (claim : Claim) (r : ℕ) (after : List ℕ) : Type 0 where
  pub answer : r ≡ (table_of bytes).next
  pub table_after : after ≡ bytes_of (granted claim (table_of bytes))

-- the entry of a slot in the way, at a place; the place after it
unfoldable pub entry_if : Claim → Slot → List ℕ
entry_if claim slot = if is_in_the_way claim slot then entry_for claim slot else []

pub record Lists (slot : Slot) (claim : Claim) (out : List ℕ) (at r : ℕ) (after : List ℕ) : Type 0 where
  pub end : r ≡ at + length (entry_if claim slot)
  pub out_after : after ≡ over at (entry_if claim slot) out
