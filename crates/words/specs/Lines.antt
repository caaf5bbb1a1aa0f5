-- A table of cases, for the sample day: each line has what the definitions say and what the paper says.
use Rattle.std.specs.Prelude.{◌≡◌, List, [], ◌∷◌}
use Rattle.words.specs.Said.{Said}

pub record Line : Type 0 where
  pub got : Said
  pub want : Said

unfoldable pub line : Said → Said → Line
line got want = record { got = got; want = want }

-- every line holds
unfoldable pub Hold : List Line → Type 0
Hold [] = Unit {0}
Hold (l ∷ ls) = (l.got ≡ l.want) × Hold ls
