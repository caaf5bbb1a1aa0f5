-- How one pass decides: what it keeps of the records so far. Contracts within the crate cite this; no public statement does.
use Rattle.std.specs.Prelude.{◌≡◌, ◌||◌, ℕ, suc, eqb, ltb, if◌then◌else◌, Result, Ok}
use mathlib.Core.List.{List, [], ◌∷◌, foldl}
use Rattle.std.specs.Int.Bits.{bit_and, bit_or}
use Rattle.words.specs.Refusal.{says_by}
use Rattle.words.specs.declared.refusal.Refusal.{Refusal}
use Rattle.words.specs.Realm.{realm_at}
use Rattle.list.specs.Checking.{Placed, records, check_says}
use Rattle.records.specs.declared.records.Record.{Record}
use Rattle.evaluate.specs.Asking.{of_default_realm}
use Rattle.evaluate.specs.Steps.{Step, steps, is_mask}
use Rattle.evaluate.specs.declared.asking.Caller.{Caller}
use Rattle.evaluate.specs.declared.asking.File.{File}
use Rattle.evaluate.specs.declared.tally.Tally.{Tally}

-- the number of the first step that takes a record, the steps being numbered from n on; one past the end where none does
unfoldable pub step_from : ℕ → List Step → Record → ℕ
step_from n [] r = suc n
step_from n (step ∷ later) r = let rest = step_from (suc n) later r in if step.takes r then n else rest

unfoldable pub no_tally : Tally
no_tally = record { step = 7; rights = 0; start = 0; size = 0; mask = 255 }

unfoldable pub with_mask : Tally → Record → Tally
with_mask t r = record { step = t.step; rights = t.rights; start = t.start; size = t.size; mask = bit_and t.mask r.rights }

unfoldable pub with_union : Tally → Record → Tally
with_union t r = record { step = t.step; rights = bit_or t.rights r.rights; start = t.start; size = t.size; mask = t.mask }

-- with one more record, which serves a step
unfoldable pub counted : Tally → ℕ → Placed → Tally
counted t step p =
    if ltb t.step step then t else
    if eqb t.step step then with_union t p.it else
    record { step = step; rights = p.it.rights; start = p.at; size = p.it.size; mask = t.mask }

-- with one more record; mask_obj serves none
unfoldable pub tallied : Tally → ℕ → Placed → Tally
tallied t step p = if is_mask p then with_mask t p.it else counted t step p

-- steps 1 and 4 are not masked
unfoldable pub allowed : Tally → ℕ
allowed t = if eqb t.step 1 || eqb t.step 4 then t.rights else bit_and t.rights t.mask

-- with one more record, by these steps
abbrev pub tallying : List Step → Tally → Placed → Tally
tallying ts t p = tallied t (step_from 1 ts p.it) p

-- of all records of a list
unfoldable pub tally_in : List ℕ → List ℕ → Caller → File → Tally
tally_in list groups caller file = foldl (tallying (steps (of_default_realm caller (realm_at 1 list)) groups caller file)) no_tally (records list)

-- passing over a list
pub record Passes (list groups : List ℕ) (caller : Caller) (file : File) (r : Result Tally Refusal) : Type 0 where
  pub check : says_by (λ tally. []) r ≡ check_says list
  pub tally : (t : Tally) → r ≡ Ok t → t ≡ tally_in list groups caller file
