-- The order of records as 01 says it, in the list's own bytes.
use Rattle.std.specs.Prelude.{Bool, List, ℕ, ◌+◌, eqb, get_or, take, if◌then◌else◌}
use Rattle.words.specs.Number.{before}
use Rattle.records.specs.Kind.{body_of}

-- a record's kind and its body without the rights byte; of kind 1 the kind alone, since it stands once
unfoldable pub key : List ℕ → List ℕ
key tail =
    let kind = get_or tail 0 0 in
    if eqb kind 1 then take 1 tail else
    take (1 + (body_of kind).realm + (body_of kind).id) tail

-- the record that a second tail begins with may stand after that of the first
unfoldable pub rises_in_bytes : List ℕ → List ℕ → Bool
rises_in_bytes earlier tail = before (key earlier) (key tail)
