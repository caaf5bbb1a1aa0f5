-- Contracts of the crate's own functions: a slot's bytes in parts.
use Rattle.std.specs.Prelude.{List, [], ◌∷◌, ◌++◌, ℕ}
use Rattle.words.specs.Writing.{digits}

-- kind, types, host
unfoldable pub head_bytes : ℕ → ℕ → ℕ → List ℕ
head_bytes kind types host = (kind ∷ []) ++ digits 2 types ++ digits 2 host

unfoldable pub rest_bytes : ℕ → ℕ → ℕ → List ℕ
rest_bytes first last number = digits 8 first ++ digits 8 last ++ digits 8 number
