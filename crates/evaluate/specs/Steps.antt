-- Rights from a list: the seven steps, and the rule that the first that applies decides.
use mathlib.Core.List.{List, [], ◌∷◌, foldl}
use Rattle.std.specs.Prelude.{Bool, true, false, not, ◌||◌, ◌&&◌, ℕ, suc, eqb, if◌then◌else◌}
use Rattle.std.specs.Int.Bits.{bit_and, bit_or}
use Rattle.words.specs.Test.{those}
use Rattle.words.specs.Realm.{same_realm}
use Rattle.list.specs.Fault.{no_record}
use Rattle.list.specs.Checking.{Placed, placed}
use Rattle.records.specs.declared.records.Record.{Record}
use Rattle.evaluate.specs.Asking.{in_group}
use Rattle.evaluate.specs.declared.asking.Caller.{Caller}
use Rattle.evaluate.specs.declared.asking.File.{File}

-- a step: the records that serve it, and whether it is masked
pub record Step : Type 0 where
  pub takes : Record → Bool
  pub is_masked : Bool

unfoldable pub masked : (Record → Bool) → Step
masked takes = record { takes = takes; is_masked = true }

unfoldable pub unmasked : (Record → Bool) → Step
unmasked takes = record { takes = takes; is_masked = false }

-- a caller, of the default realm or not, and a file
module _ (home : Bool) (groups : List ℕ) (caller : Caller) (file : File) where
  -- default realm, and a record of this kind
  unfoldable pub here : ℕ → Record → Bool
  here kind r = home && eqb r.kind kind

  -- another realm, and a record of this kind that names it
  unfoldable pub abroad : ℕ → Record → Bool
  abroad kind r = not home && (eqb r.kind kind && same_realm r.realm caller.realm)

  unfoldable pub steps : List Step
  steps =
      -- 1. Default realm and owner: user_obj, unmasked.
      unmasked (λ r. here 2 r && eqb caller.user file.owner)
      -- 2. Default realm and a user record, or another realm and a foreign_user record, for this caller: masked.
      ∷ masked (λ r. (here 7 r || abroad 9 r) && eqb r.id caller.user)
      -- 3. Any group matching: group_obj by the file's group and group records (default realm), foreign_group records (another
      -- realm). The union of all that match, masked.
      ∷ masked (λ r. (here 3 r && in_group caller groups file.group) || ((here 8 r || abroad 10 r) && in_group caller groups r.id))
      -- 4. Default realm: other_obj, unmasked.
      ∷ unmasked (λ r. here 4 r)
      -- 5. foreign_other of the caller's realm: masked.
      ∷ masked (λ r. abroad 11 r)
      -- 6. any_other: masked.
      ∷ masked (λ r. eqb r.kind 6)
      -- 7. Nothing.
      ∷ []

-- the step that decides, and the records that serve it
pub record Served : Type 0 where
  pub step : ℕ
  pub is_masked : Bool
  pub by : List Placed

-- the step of a number, where some records serve it; else what the later steps give
unfoldable pub serving : ℕ → Step → List Placed → Served → Served
serving n step [] later = later
serving n step (p ∷ ps) later = record { step = n; is_masked = step.is_masked; by = p ∷ ps }

-- the first step that some record serves, the steps being numbered from n on
unfoldable pub served_from : ℕ → List Step → List Placed → Served
served_from n [] rs = record { step = n; is_masked = false; by = [] }
served_from n (step ∷ later) rs = serving n step (those (λ p. step.takes p.it) rs) (served_from (suc n) later rs)

abbrev pub served : List Step → List Placed → Served
served = served_from 1

-- the rights of all of them
unfoldable pub union : List Placed → ℕ
union = foldl (λ (x : ℕ) (p : Placed). bit_or x p.it.rights) 0

unfoldable pub is_mask : Placed → Bool
is_mask p = eqb p.it.kind 5

-- the rights also in mask_obj, where one exists
unfoldable pub masking : List Placed → ℕ → ℕ
masking rs x = foldl (λ (y : ℕ) (p : Placed). bit_and y p.it.rights) x (those is_mask rs)

unfoldable pub rights_by : Served → List Placed → ℕ
rights_by s rs = if s.is_masked then masking rs (union s.by) else union s.by

-- the deciding record: the first in the list; where there is none, one of no length at the beginning
unfoldable pub first : List Placed → Placed
first [] = placed 0 no_record
first (p ∷ ps) = p
