-- The deciding record lies within the list. Assumes nothing.
use Rattle.std.specs.Prelude.{if◌then◌else◌}
use mathlib.Core.List.{List, [], ◌∷◌}
use mathlib.Core.Bool.{Bool, true, false}
use Prim.Native.Nat.{ℕ, ◌+◌, ◌≤◌}
use native.Mathlib.Omega.{arith}
use lib.Dec.{ltb}
use lib.ListN.{length}
use Rattle.words.specs.Said.{Said, done, refused}
use Rattle.words.specs.Realm.{realm_at}
use Rattle.words.proofs.Tests.{Each}
use Rattle.list.specs.Fault.{no_record}
use Rattle.list.specs.Checking.{Placed, placed, records, check_says}
use Rattle.list.proofs.Places.{EndsBy, records_within}
use Rattle.evaluate.specs.Asking.{of_default_realm}
use Rattle.evaluate.specs.Steps.{steps, first}
use Rattle.evaluate.specs.Evaluation.{Decided, bare, unless_too_many, unless_refused, by_step, served_in, list_gives, evaluation}
use Rattle.evaluate.specs.declared.asking.Caller.{Caller}
use Rattle.evaluate.specs.declared.asking.File.{File}
use Rattle.evaluate.proofs.Deciders.{served_each}

first_within : (n : ℕ) (ps : List Placed) → Each (EndsBy n) ps → (first ps).at + (first ps).it.size ≤ n
unfolding Each first placed no_record
first_within n [] w = omega arith
first_within n (p ∷ ps) w = w.0

-- the part of a decision ends at n or before
unfoldable pub Fits : ℕ → Decided → Type 0
Fits n d = d.start + d.size ≤ n

pub bare_fits : (n : ℕ) (said : Said) → Fits n (bare said)
unfolding Fits bare
bare_fits n said = omega arith

pub either_fits : (n : ℕ) (b : Bool) (d e : Decided) → Fits n d → Fits n e → Fits n (if b then d else e)
either_fits n true d e h k = h
either_fits n false d e h k = k

pub counted_fits : (n : ℕ) (groups : List ℕ) (d : Decided) → Fits n d → Fits n (unless_too_many groups d)
unfolding unless_too_many
counted_fits n groups d h = either_fits n (ltb 32 (length groups)) _ _ (bare_fits n _) h

unless_fits : (n : ℕ) (said : Said) (d : Decided) → Fits n d → Fits n (unless_refused said d)
unfolding unless_refused
unless_fits n (done values) d h = h
unless_fits n (refused number values) d h = bare_fits n (refused number values)

pub gives_fits : (list groups : List ℕ) (caller : Caller) (file : File) → Fits (length list) (list_gives list groups caller file)
unfolding Fits list_gives by_step served_in
gives_fits list groups caller file =
    unless_fits (length list) (check_says list) _
    (first_within (length list) _ (served_each (EndsBy (length list)) (records list) (records_within list) 1 (steps (of_default_realm caller (realm_at 1 list)) groups caller file)))

pub evaluation_fits : (list groups : List ℕ) (caller : Caller) (file : File) → Fits (length list) (evaluation list groups caller file)
unfolding evaluation
evaluation_fits list groups caller file = counted_fits (length list) groups (list_gives list groups caller file) (gives_fits list groups caller file)
