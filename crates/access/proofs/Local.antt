-- By a list a caller of the zero realm is judged as that user of the default realm. Assumes nothing.
use mathlib.Core.Path.{◌≡◌}
use mathlib.Core.List.{List}
use Prim.Native.Nat.{ℕ}
use Rattle.words.specs.Realm.{zero_realm, realm_at}
use Rattle.evaluate.specs.declared.asking.File.{File}
use Rattle.evaluate.proofs.Local.{of}
use Rattle.rights.specs.declared.guard.Guard.TheVariants.{List as ByList}
use Rattle.rights.proofs.Local.{by_list}
use Rattle.access.specs.Access.{access_of, access_says}

pub judged_as_default : (list groups : List ℕ) (user group : ℕ) (file : File) (types : ℕ)
    → access_says (access_of list groups (of zero_realm user group) file ByList) types ≡ access_says (access_of list groups (of (realm_at 1 list) user group) file ByList) types
unfolding access_says
judged_as_default list groups user group file types = rw (by_list groups user group file list)
