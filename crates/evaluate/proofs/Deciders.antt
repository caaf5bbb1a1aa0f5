-- What holds of each record of a list holds of those that decide. Assumes nothing.
use mathlib.Core.List.{List, [], ◌∷◌}
use Prim.Native.Nat.{ℕ, suc}
use Rattle.words.specs.Test.{those}
use Rattle.words.proofs.Tests.{Each, those_each}
use Rattle.list.specs.Checking.{Placed}
use Rattle.evaluate.specs.Steps.{Step, serving, served_from}

module _ (P : Placed → Type 0) (rs : List Placed) (each : Each P rs) where
  pub served_each : (n : ℕ) (ts : List Step) → Each P (served_from n ts rs).by
  unfolding Each served_from serving
  served_each n [] = tt
  served_each n (t ∷ ts) = go (those (λ p. t.takes p.it) rs) (those_each P (λ (p : Placed). t.takes p.it) rs each) (served_each (suc n) ts)
    where
      go : (ps : List Placed) → Each P ps → Each P (served_from (suc n) ts rs).by → Each P (serving n t ps (served_from (suc n) ts rs)).by
      go [] here later = later
      go (p ∷ ps) here later = here
