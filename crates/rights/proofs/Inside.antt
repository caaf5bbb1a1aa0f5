-- The deciding record lies within the list. Assumes nothing.
use mathlib.Core.List.{List}
use Prim.Native.Nat.{ℕ, ◌+◌, ◌≤◌}
use lib.Dec.{ltb}
use lib.ListN.{length}
use Rattle.words.specs.Realm.{unknown_realm, same_realm}
use Rattle.words.specs.declared.realm.Realm.{Realm}
use Rattle.evaluate.specs.declared.asking.Caller.{Caller}
use Rattle.evaluate.specs.declared.asking.File.{File}
use Rattle.evaluate.proofs.Inside.{Fits, bare_fits, either_fits, counted_fits, gives_fits}
use Rattle.rights.specs.Deciding.{by_mode, by_guard, decided}
use Rattle.rights.specs.declared.guard.Guard.{Guard}
use Rattle.rights.specs.declared.guard.Guard.TheVariants.{List as ByList, Mode}

module _ (list groups : List ℕ) (caller : Caller) (file : File) where
  mode_fits : (local : Realm) (mode : ℕ) → Fits (length list) (by_mode groups caller file local mode)
  unfolding by_mode
  mode_fits local mode =
      either_fits (length list) (same_realm local unknown_realm) _ _ (bare_fits (length list) _)
      (either_fits (length list) (ltb 511 mode) _ _ (bare_fits (length list) _) (bare_fits (length list) _))

  guard_fits : (guard : Guard) → Fits (length list) (by_guard guard list groups caller file)
  unfolding by_guard
  guard_fits ByList = gives_fits list groups caller file
  guard_fits (Mode local mode) = mode_fits local mode

  pub decided_fits : (guard : Guard) → (decided list groups caller file guard).start + (decided list groups caller file guard).size ≤ length list
  unfolding decided Fits
  decided_fits guard = counted_fits (length list) groups (by_guard guard list groups caller file) (guard_fits guard)
