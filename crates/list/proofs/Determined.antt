-- Two outcomes that meet a statement are equal. Assumes nothing.
use Rattle.std.specs.Prelude.{Option, None, Some}
use mathlib.Core.Path.{◌≡◌, refl, sym, ◌∙◌}
use mathlib.Core.List.{List, [], ◌∷◌}
use Prim.Native.Nat.{ℕ}
use lib.ListN.{get_or, drop}
use Rattle.words.proofs.Refusals.{same_says}
use Rattle.records.specs.Reading.{record_values}
use Rattle.records.proofs.Determined.{record_with}
use Rattle.list.specs.Walking.{Step, step_of, walk_values, met_values, Starts, Steps}
use Rattle.list.specs.declared.walk.Walk.{Walk}
use Rattle.records.specs.declared.records.Record.{Record}

pub start_determined : (list : List ℕ) (r r' : Walk) → Starts list r → Starts list r' → r ≡ r'
start_determined list r r' p q = p.answer ∙ sym q.answer

-- the walk that has some values
unfoldable walk_with : List ℕ → Walk
walk_with values = record {
  at = get_or values 0 0;
  home = record { hi = get_or values 1 0; lo = get_or values 2 0 };
  earlier = record_with (drop 3 values);
  marks = get_or values 9 0;
}

-- a record met and the walk after it, by their values
back : List ℕ → Option (Record × Walk)
back [] = None
back (value ∷ more) = Some (record_with (value ∷ more), walk_with (drop 6 (value ∷ more)))

inverse : (o : Option (Record × Walk)) → back (met_values o) ≡ o
unfolding back met_values record_values walk_values record_with walk_with
inverse None = refl
inverse (Some (r, walk)) = refl

pub step_determined : (walk : Walk) (list : List ℕ) (r r' : Step) → Steps walk list r → Steps walk list r' → r ≡ r'
step_determined walk list r r' p q = same_says met_values back inverse r r' p.answer q.answer

-- so a step is what the walk comes to
pub step_is : {walk : Walk} {list : List ℕ} {r : Step} → Steps walk list r → r ≡ step_of walk list
step_is {walk = walk} {list = list} {r = r} p = step_determined walk list r (step_of walk list) p (record { answer = refl })
