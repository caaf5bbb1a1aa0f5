-- The sample day's return, and our own cases of returns and drops: each line is what a call says, or the bytes that it leaves, and what 01 says of it.
use Rattle.std.specs.Prelude.{List, [], ◌∷◌, ◌++◌, ℕ, set, take}
use Rattle.words.specs.Said.{Said, done, refused}
use Rattle.words.specs.Lines.{Line, line}
use Rattle.table.specs.Call.{says_of, left_of}
use Rattle.table.specs.Day.{one, two, back}
use Rattle.returns.specs.Return.{return_says, returned}
use Rattle.returns.specs.DropHost.{drop_says}

-- what calls say, and the bytes that they leave
unfoldable pub returns : ℕ → ℕ → ℕ → List ℕ → Said
returns host number types = says_of (return_says host number types)

unfoldable pub given : ℕ → ℕ → ℕ → List ℕ → List ℕ
given host number types = left_of (return_says host number types) (returned host number types)

unfoldable pub drops : ℕ → List ℕ → Said
drops host = says_of (drop_says host)

unfoldable pub others : List Line
others =
    line (returns 1 1 2 two) (done [])
    ∷ line (done (given 1 1 2 two)) (done back)
    ∷ []

unfoldable pub ours : List Line
ours =
    line (returns 2 1 2 two) (refused 36 [])
    ∷ line (returns 1 0 2 two) (refused 36 [])
    ∷ line (returns 1 1 3 two) (refused 37 [])
    ∷ line (returns 0 1 2 two) (refused 31 [])
    ∷ line (drops 2 two) (done (1 ∷ []))
    ∷ line (drops 9 two) (done (0 ∷ []))
    ∷ line (drops 0 two) (refused 31 [])
    ∷ []

-- each rule of 'well formed' broken once, in a table with one token and one free slot
unfoldable pub damaged : List Line
damaged =
    line (drops 1 one) (done (1 ∷ []))
    ∷ line (drops 1 (take 122 one)) (refused 30 [])
    ∷ line (drops 1 (take 41 one)) (refused 30 [])
    ∷ line (drops 1 (set one 0 1)) (refused 30 [])
    ∷ line (drops 1 (set one 1 7)) (refused 30 [])
    ∷ line (drops 1 (set one 32 7)) (refused 30 [])
    ∷ line (drops 1 (set one 40 0)) (refused 30 [])
    ∷ line (drops 1 (set one 41 2)) (refused 30 [])
    ∷ line (drops 1 (set one 43 0)) (refused 30 [])
    ∷ line (drops 1 (set one 42 1)) (refused 30 [])
    ∷ line (drops 1 (set one 45 0)) (refused 30 [])
    ∷ line (drops 1 (set one 58 1)) (refused 30 [])
    ∷ line (drops 1 (set one 81 0)) (refused 30 [])
    ∷ line (drops 1 (set one 81 2)) (refused 30 [])
    ∷ line (drops 1 (set one 83 7)) (refused 30 [])
    ∷ line (drops 1 (set one 122 7)) (refused 30 [])
    ∷ []

unfoldable pub day : List Line
day = others ++ (ours ++ damaged)
