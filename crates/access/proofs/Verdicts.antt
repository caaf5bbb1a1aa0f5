-- What is judged by the rights that are decided. Assumes nothing.
use mathlib.Core.Path.{◌≡◌, refl, ◌∙◌, ap}
use Prim.Native.Nat.{ℕ}
use Rattle.std.specs.Prelude.{Result, Ok, Err}
use Rattle.words.specs.Refusal.{refusal_says, says_by, plain_says}
use Rattle.words.specs.declared.refusal.Refusal.{Refusal}
use Rattle.evaluate.specs.Evaluation.{Decided, bare, evaluated_as}
use Rattle.evaluate.specs.declared.evaluation.Found.{Found}
use Rattle.rights.specs.Deciding.{decided, Finds}
use Rattle.access.specs.Needs.{needed}
use Rattle.access.specs.Access.{Access, sufficient, permits, access_says, Judges}

module _ {access : Access} {types : ℕ} {r : Result Found Refusal} (finds : Finds (decided access.list access.groups access.caller access.file access.guard) r) where
  pub undecided : {refusal : Refusal} → r ≡ Err refusal → Judges access types (Err refusal)
  unfolding evaluated_as bare says_by access_says permits refusal_says
  undecided {refusal = refusal} q = record { answer = rw (← ap (λ (d : Decided). d.says) (rw q at finds.answer)) refl }

  pub judged : {found : Found} {needs : ℕ} {verdict : Result (Unit {0}) Refusal} → r ≡ Ok found → needs ≡ needed access.file.dir types
      → plain_says verdict ≡ sufficient found.rights needs → Judges access types verdict
  unfolding evaluated_as access_says permits
  judged q n e = record { answer = e ∙ rw (← ap (λ (d : Decided). d.says) (rw q at finds.answer), n) refl }
