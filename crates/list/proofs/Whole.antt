-- A walk over a whole list says what the check says, and meets the list's records. Assumes nothing.
use Rattle.std.specs.Prelude.{None, Some, Ok, Err}
use mathlib.Core.Path.{◌≡◌, refl, sym, ◌∙◌, ap}
use mathlib.Core.List.{List, [], ◌∷◌, ◌++◌, foldl, append_assoc, append-nil}
use Prim.Native.Nat.{ℕ, zero, suc, ◌-◌, ◌<◌}
use native.Mathlib.Omega.{arith}
use lib.ListN.{length}
use Rattle.words.specs.Said.{done}
use Rattle.words.specs.Refusal.{refusal_says}
use Rattle.list.specs.Checking.{Placed, placed, records, check_says}
use Rattle.list.specs.Walking.{Step, start_of, step_of, step_says, Steps, Run, meeting, run_from, run}
use Rattle.list.specs.declared.walk.Walk.{Walk}
use Rattle.list.proofs.Runs.{Leads, starts, goes, falls, refuses, passes_all, gathers_all}

-- the records met so far are gathered
met_too : List Placed → Placed → List Placed
met_too ps p = ps ++ (p ∷ [])

all_met : (first ps : List Placed) → foldl met_too first ps ≡ first ++ ps
unfolding met_too
all_met first [] = sym (append-nil first)
all_met first (p ∷ ps) = all_met (first ++ (p ∷ [])) ps ∙ append_assoc first (p ∷ []) ps

record Said-and-met (l : List ℕ) (so_far : List Placed) (r : Run) : Type 0 where
  said : r.says ≡ check_says l
  met : r.says ≡ done [] → so_far ++ r.met ≡ records l

module _ (l : List ℕ) where
  from : (n : ℕ) (w : Walk) (so_far : List Placed) → length l - w.at < n → Leads met_too l [] so_far w → Said-and-met l so_far (run_from n w l)
  unfolding run_from meeting met_too refusal_says
  from zero w so_far h leads = absurd (omega arith)
  from (suc n) w so_far h leads = go (λ v. from n v) (step_of w l) refl
    where
      go : ((v : Walk) (so_far : List Placed) → length l - v.at < n → Leads met_too l [] so_far v → Said-and-met l so_far (run_from n v l))
          → (s : Step) → step_of w l ≡ s → Said-and-met l so_far (meeting w.at s (λ v. run_from n v l))
      go later (Ok (Some (r, v))) q =
          let stepped : Steps w l (Ok (Some (r, v))) = record { answer = ap step_says (sym q) } in
          let f = falls stepped leads refl in
          let rest = later v (so_far ++ (placed w.at r ∷ [])) (omega arith) (goes stepped leads refl) in
          record { said = rest.said; met = λ d. sym (append_assoc so_far (placed w.at r ∷ []) _) ∙ rest.met d }
      go later (Err refusal) q =
          let stepped : Steps w l (Err refusal) = record { answer = ap step_says (sym q) } in
          record {
            said = sym (refuses stepped leads refl);
            met = λ d. cc;
          }
      go later (Ok None) q =
          let stepped : Steps w l (Ok None) = record { answer = ap step_says (sym q) } in
          record {
            said = sym (passes_all stepped leads refl);
            met = λ d. append-nil so_far ∙ gathers_all stepped leads refl ∙ all_met [] (records l);
          }

  whole : Said-and-met l [] (run l)
  unfolding run start_of
  whole = from (suc (length l)) (start_of l) [] (omega arith) (starts met_too l [])

  pub run_says : (run l).says ≡ check_says l
  run_says = whole.said

  pub run_meets : check_says l ≡ done [] → (run l).met ≡ records l
  run_meets d = whole.met (run_says ∙ d)
