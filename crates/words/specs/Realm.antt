-- Realms: sixteen bytes, held as two numbers of eight.
use Rattle.std.specs.Prelude.{◌≡◌, Bool, cond, ◌&&◌, List, ◌++◌, ℕ, ◌+◌, eqb}
use Rattle.words.specs.Number.{number, part, within, less}
use Rattle.words.specs.Writing.{digits, written}
use Rattle.words.specs.declared.realm.Realm.{Realm}

-- sixteen zeroes: the realm of jobs started on the server itself, and what stands for the realm where there is none
unfoldable pub zero_realm : Realm
zero_realm = record { hi = 0; lo = 0 }

-- 255, 255, 255, 254 and twelve zero bytes
unfoldable pub unknown_realm : Realm
unknown_realm = record { hi = 0xffff_fffe_0000_0000; lo = 0 }

-- the sixteen bytes at a place; zeroes where they are not all there
unfoldable pub realm_at : ℕ → List ℕ → Realm
realm_at at bytes =
    cond (within at 16 bytes)
    (record { hi = number (part at 8 bytes); lo = number (part (at + 8) 8 bytes) })
    zero_realm

-- its sixteen bytes
unfoldable pub realm_bytes : Realm → List ℕ
realm_bytes realm = digits 8 realm.hi ++ digits 8 realm.lo

unfoldable pub same_realm : Realm → Realm → Bool
same_realm a b = eqb a.hi b.hi && eqb a.lo b.lo

-- a is below b, or it is b and what stands lower says so
unfoldable pub less_realm : Realm → Realm → Bool → Bool
less_realm a b lower = less a.hi b.hi (less a.lo b.lo lower)

-- reading a realm
pub record ReadsRealm (bytes : List ℕ) (at : ℕ) (r : Realm) : Type 0 where
  pub answer : r ≡ realm_at at bytes

-- writing a realm
pub record WritesRealm (realm : Realm) (bytes : List ℕ) (at : ℕ) (after : List ℕ) : Type 0 where
  pub bytes_after : after ≡ written at (realm_bytes realm) bytes

-- telling whether two realms are the same
pub record TellsRealms (a b : Realm) (r : Bool) : Type 0 where
  pub answer : r ≡ same_realm a b

-- telling whether a realm is the unknown one
pub record TellsUnknown (realm : Realm) (r : Bool) : Type 0 where
  pub answer : r ≡ same_realm realm unknown_realm
