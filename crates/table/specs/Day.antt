-- The sample day's tables, byte by byte, and claims on its one file; fill makes the first of them.
use Rattle.std.specs.Prelude.{List, [], ◌∷◌, ◌++◌, ℕ, replicate}
use Rattle.words.specs.Said.{done}
use Rattle.words.specs.Lines.{Line, line}
use Rattle.claims.specs.declared.claim.Claim.{Claim}
use Rattle.table.specs.Layout.{bytes_of}
use Rattle.table.specs.Fill.{filled}

-- one file
unfoldable pub claim : ℕ → ℕ → ℕ → ℕ → Claim
claim host types first last = record { types = types; host = host; file = record { hi = 7; lo = 9 }; first = first; last = last }

-- bytes by hand: small numbers, the one file
unfoldable pub eight : ℕ → List ℕ
eight n = 0 ∷ 0 ∷ 0 ∷ 0 ∷ 0 ∷ 0 ∷ 0 ∷ n ∷ []

unfoldable pub header : ℕ → List ℕ
header next = (2 ∷ replicate 32 0) ++ eight next

unfoldable pub slot : ℕ → ℕ → ℕ → ℕ → ℕ → List ℕ
slot types host first last number = (1 ∷ 0 ∷ types ∷ 0 ∷ host ∷ []) ++ (eight 7 ++ (0 ∷ 0 ∷ 0 ∷ 9 ∷ [])) ++ (eight first ++ (eight last ++ eight number))

unfoldable pub free : List ℕ
free = replicate 41 0

-- n = 2, 123 bytes: empty; with host 1's data write 0 to 99; with host 2's data read 100 to 199 as well; after host 1 has returned; after host 3
-- has been granted
unfoldable pub empty : List ℕ
empty = header 1 ++ free ++ free

unfoldable pub one : List ℕ
one = header 2 ++ slot 2 1 0 99 1 ++ free

unfoldable pub two : List ℕ
two = header 3 ++ slot 2 1 0 99 1 ++ slot 1 2 100 199 2

unfoldable pub back : List ℕ
back = header 3 ++ free ++ slot 1 2 100 199 2

unfoldable pub three : List ℕ
three = header 4 ++ slot 1 3 99 100 3 ++ slot 1 2 100 199 2

unfoldable pub day : List Line
day = line (done (bytes_of (filled 2))) (done empty) ∷ []
