-- Who asks.
use Rattle.std.specs.Prelude.{◌≡◌, List, Bool, ◌||◌, ℕ, eqb}
use Rattle.words.specs.Test.{any_of}
use Rattle.words.specs.Realm.{zero_realm, same_realm}
use Rattle.words.specs.declared.realm.Realm.{Realm}
use Rattle.evaluate.specs.declared.asking.Caller.{Caller}

-- a caller is of the default realm if its realm is that one or sixteen zeroes, the realm of jobs started on the server itself
-- (12.16.2 a)
unfoldable pub of_default_realm : Caller → Realm → Bool
of_default_realm caller default = same_realm caller.realm default || same_realm caller.realm zero_realm

-- a caller's groups are its primary group and the further ones
unfoldable pub in_group : Caller → List ℕ → ℕ → Bool
in_group caller groups id = eqb caller.group id || any_of (λ (g : ℕ). eqb g id) groups

-- telling whether a caller is in a group
pub record TellsGroup (caller : Caller) (groups : List ℕ) (id : ℕ) (r : Bool) : Type 0 where
  pub answer : r ≡ in_group caller groups id
