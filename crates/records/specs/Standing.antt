-- What lets a record stand in a list: its order after another, its realm, its control.
use Rattle.std.specs.Prelude.{◌≡◌, Bool, not, ◌||◌, ◌&&◌, ◌/◌, ◌%◌, eqb, ltb}
use Rattle.words.specs.Number.{less}
use Rattle.words.specs.Realm.{unknown_realm, same_realm, less_realm}
use Rattle.words.specs.declared.realm.Realm.{Realm}
use Rattle.records.specs.Kind.{is_foreign}
use Rattle.records.specs.declared.records.Record.{Record}

-- strictly rising order of body without its rights byte: of realm, then of id
abbrev pub body_rises : Record → Record → Bool
body_rises earlier r = less_realm earlier.realm r.realm (ltb earlier.id r.id)

-- strictly rising order of kind, then of body. Kind 1 stands once, whatever its realm
unfoldable pub rises : Record → Record → Bool
rises earlier r = less earlier.kind r.kind (not (eqb r.kind 1) && body_rises earlier r)

-- the unknown realm, or a foreign record that names the default realm
unfoldable pub is_forbidden : Realm → Record → Bool
is_forbidden home r = same_realm r.realm unknown_realm || (is_foreign r.kind && same_realm r.realm home)

-- user_obj without control, which is 8
unfoldable pub lacks_control : Record → Bool
lacks_control r = eqb r.kind 2 && eqb (r.rights / 8 % 2) 0

-- telling whether a record's body may stand after another's
pub record TellsBodies (earlier r : Record) (b : Bool) : Type 0 where
  pub answer : b ≡ body_rises earlier r

-- telling whether a record may stand after another
pub record TellsOrder (earlier r : Record) (b : Bool) : Type 0 where
  pub answer : b ≡ rises earlier r

-- telling whether a record's realm is forbidden
pub record TellsForbidden (home : Realm) (r : Record) (b : Bool) : Type 0 where
  pub answer : b ≡ is_forbidden home r

-- telling whether a record is a user_obj without control
pub record TellsPowerless (r : Record) (b : Bool) : Type 0 where
  pub answer : b ≡ lacks_control r
