-- Writing into lent bytes.
use Rattle.std.specs.Prelude.{◌≡◌, List, [], ◌∷◌, ◌++◌, ℕ, zero, suc, ◌+◌, ◌/◌, ◌%◌, length, take, drop, if◌then◌else◌}
use Rattle.words.specs.Number.{within}

-- the bytes of a width that spell a number: the higher ones, then the lowest
unfoldable pub digits : ℕ → ℕ → List ℕ
digits zero n = []
digits (suc width) n = digits width (n / 256) ++ (n % 256 ∷ [])

-- bytes with a piece written over them at a place
unfoldable pub over : ℕ → List ℕ → List ℕ → List ℕ
over at piece bytes = take at bytes ++ piece ++ drop (at + length piece) bytes

-- the same where the piece has room; where it has none, nothing is written
unfoldable pub written : ℕ → List ℕ → List ℕ → List ℕ
written at piece bytes = if within at (length piece) bytes then over at piece bytes else bytes

-- writing a number of some width
pub record WritesNumber (width n : ℕ) (bytes : List ℕ) (at : ℕ) (after : List ℕ) : Type 0 where
  pub bytes_after : after ≡ written at (digits width n) bytes
