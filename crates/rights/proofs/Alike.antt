-- Two callers who agree in what the rules look at get the same answer: user, which groups they are in, and of their realms what the guard
-- looks at. Assumes nothing.
use mathlib.Core.Path.{◌≡◌, refl}
use mathlib.Core.List.{List}
use Prim.Native.Nat.{ℕ}
use lib.Dec.{ltb}
use lib.ListN.{length}
use Rattle.words.specs.Realm.{unknown_realm, realm_at, same_realm}
use Rattle.words.specs.declared.realm.Realm.{Realm}
use Rattle.evaluate.specs.Asking.{in_group}
use Rattle.evaluate.specs.Evaluation.{unless_too_many}
use Rattle.evaluate.specs.declared.asking.Caller.{Caller}
use Rattle.evaluate.specs.declared.asking.File.{File}
use Rattle.evaluate.proofs.Alike.{OneRealm, gives_alike}
use Rattle.rights.specs.Mode.{class_rights, mode_rights}
use Rattle.rights.specs.Deciding.{by_mode, by_guard, decided}
use Rattle.rights.specs.declared.guard.Guard.{Guard}
use Rattle.rights.specs.declared.guard.Guard.TheVariants.{List as ByList, Mode}

-- a list: both of its default realm, or of one realm; a mode: both of the local realm, or neither
unfoldable pub AsOne : Guard → List ℕ → Caller → Caller → Type 0
AsOne ByList list a b = OneRealm (realm_at 1 list) a b
AsOne (Mode local mode) list a b = same_realm a.realm local ≡ same_realm b.realm local

module _ (caller caller' : Caller) (groups groups' : List ℕ) (user : caller.user ≡ caller'.user)
    (same : (id : ℕ) → in_group caller groups id ≡ in_group caller' groups' id) (file : File) where
  -- two local realms, both unknown or neither
  pub mode_alike : (local local' : Realm) (mode : ℕ) → same_realm local unknown_realm ≡ same_realm local' unknown_realm
      → same_realm caller.realm local ≡ same_realm caller'.realm local' → by_mode groups caller file local mode ≡ by_mode groups' caller' file local' mode
  unfolding by_mode mode_rights class_rights
  mode_alike local local' mode unknown one = rw (unknown, same file.group, one, user) refl

  guard_alike : (guard : Guard) (list : List ℕ) → AsOne guard list caller caller' → by_guard guard list groups caller file ≡ by_guard guard list groups' caller' file
  unfolding AsOne by_guard
  guard_alike ByList list one = gives_alike caller caller' groups groups' user same file list one
  guard_alike (Mode local mode) list one = mode_alike local local mode refl one

  -- where both have more than 32 groups, or neither
  pub alike : (list : List ℕ) (guard : Guard) → AsOne guard list caller caller' → ltb 32 (length groups) ≡ ltb 32 (length groups')
      → decided list groups caller file guard ≡ decided list groups' caller' file guard
  unfolding decided unless_too_many
  alike list guard one q = rw (q, guard_alike guard list one)
