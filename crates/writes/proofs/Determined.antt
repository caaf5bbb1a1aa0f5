-- Two outcomes that meet a statement are equal. Assumes nothing.
use mathlib.Core.Path.{◌≡◌, sym, ◌∙◌}
use mathlib.Core.List.{List}
use Prim.Native.Nat.{ℕ}
use Rattle.words.specs.Writing.{WritesNumber}
use Rattle.words.specs.Realm.{WritesRealm}
use Rattle.words.specs.declared.realm.Realm.{Realm}

-- of every width
pub write_number_determined : (width n : ℕ) (bytes : List ℕ) (at : ℕ) (after after' : List ℕ)
    → WritesNumber width n bytes at after → WritesNumber width n bytes at after' → after ≡ after'
write_number_determined width n bytes at after after' p q = p.bytes_after ∙ sym q.bytes_after

pub write_realm_determined : (realm : Realm) (bytes : List ℕ) (at : ℕ) (after after' : List ℕ)
    → WritesRealm realm bytes at after → WritesRealm realm bytes at after' → after ≡ after'
write_realm_determined realm bytes at after after' p q = p.bytes_after ∙ sym q.bytes_after
