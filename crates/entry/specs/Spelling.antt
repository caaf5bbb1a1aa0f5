-- Records in bytes.
use Rattle.std.specs.Prelude.{List, [], ◌∷◌, ◌++◌, ℕ, eqb, if◌then◌else◌}
use Rattle.words.specs.Writing.{digits}
use Rattle.words.specs.Realm.{realm_bytes}
use Rattle.records.specs.Kind.{body_of}
use Rattle.records.specs.declared.records.Record.{Record}

-- a part of a body, which has no bytes where the kind has no such part
unfoldable pub part_of : ℕ → List ℕ → List ℕ
part_of width bytes = if eqb width 0 then [] else bytes

-- the kind, then its realm, its id and its rights
unfoldable pub spelled : Record → List ℕ
spelled r =
    r.kind
    ∷ (part_of (body_of r.kind).realm (realm_bytes r.realm)
    ++ (part_of (body_of r.kind).id (digits 4 r.id)
    ++ part_of (body_of r.kind).rights (r.rights ∷ [])))

-- one record after the other
unfoldable pub spell : List Record → List ℕ
spell [] = []
spell (r ∷ rs) = spelled r ++ spell rs
