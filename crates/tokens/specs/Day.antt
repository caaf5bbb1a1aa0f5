-- The sample day's requests, and our own cases: each line is what a call says, or the bytes that it leaves, and what 01 says of it.
use Rattle.std.specs.Prelude.{List, [], ◌∷◌, ◌++◌, ℕ, drop, replicate}
use Rattle.words.specs.Said.{Said, done, refused, left}
use Rattle.words.specs.Lines.{Line, line}
use Rattle.claims.specs.Rule.{conflict}
use Rattle.claims.specs.declared.claim.Claim.{Claim}
use Rattle.table.specs.Layout.{table_of}
use Rattle.table.specs.Call.{says_of, left_of}
use Rattle.table.specs.Day.{claim, eight, header, slot, free, empty, one, two, back, three}
use Rattle.tokens.specs.Grant.{grant_says, granted}
use Rattle.widest.specs.Widest.{last_byte, widened}
use Rattle.tokens.specs.Widest.{with_more}
use Rattle.tokens.specs.Ask.{list_for, ask_says}

-- what calls say, and the bytes that they leave
unfoldable pub grants : Claim → List ℕ → Said
grants c = says_of (grant_says c)

unfoldable pub after : Claim → List ℕ → List ℕ
after c = left_of (grant_says c) (granted c)

-- a grant with the widest range, as it is computed
unfoldable pub widens : Claim → List ℕ → Said
widens c bytes = let wide = widened c (table_of bytes) in with_more (wide.first ∷ wide.last ∷ []) (grants c bytes)

-- with a list buffer of 13 bytes, each 255
unfoldable pub asks : Claim → List ℕ → Said
asks c = says_of (ask_says c (replicate 13 255))

unfoldable pub lists : Claim → List ℕ → Said
lists c bytes = done (left (asks c bytes) (list_for c (table_of bytes)) (replicate 13 255))

-- 900 in eight bytes: 3 times 256, and 132
unfoldable pub far : List ℕ
far = 0 ∷ 0 ∷ 0 ∷ 0 ∷ 0 ∷ 0 ∷ 3 ∷ 132 ∷ []

-- host 2's status read 900 to 900 alone
unfoldable pub status : List ℕ
status = header 2 ++ ((1 ∷ 0 ∷ 4 ∷ 0 ∷ 2 ∷ []) ++ (eight 7 ++ (0 ∷ 0 ∷ 0 ∷ 9 ∷ [])) ++ (far ++ (far ++ eight 1))) ++ free

-- hosts 1 to 4 write at 10, 90, 40 and 60, and a slot is free
unfoldable pub far_and_near : List ℕ
far_and_near = header 5 ++ slot 2 1 10 10 1 ++ slot 2 2 90 90 2 ++ slot 2 3 40 40 3 ++ slot 2 4 60 60 4 ++ free

unfoldable pub starred : List Line
starred =
    line (grants (claim 2 1 100 199) one) (done (2 ∷ []))
    ∷ line (asks (claim 2 1 100 199) one) (done (0 ∷ []))
    ∷ line (asks (claim 3 1 99 100) two) (done (1 ∷ []))
    ∷ line (lists (claim 3 1 99 100) two) (done (3 ∷ 0 ∷ 0 ∷ 0 ∷ 0 ∷ 0 ∷ 0 ∷ 0 ∷ 1 ∷ 0 ∷ 1 ∷ 0 ∷ 2 ∷ []))
    ∷ line (done (after (claim 2 4 900 900) empty)) (done status)
    ∷ line (asks (claim 1 8 5 5) status) (done (1 ∷ []))
    ∷ line (lists (claim 1 8 5 5) status) (done (3 ∷ 0 ∷ 0 ∷ 0 ∷ 0 ∷ 0 ∷ 0 ∷ 0 ∷ 1 ∷ 0 ∷ 2 ∷ 0 ∷ 4 ∷ []))
    ∷ line (grants (claim 1 8 5 5) status) (refused 32 [])
    ∷ []

unfoldable pub others : List Line
others =
    line (grants (claim 1 2 0 99) empty) (done (1 ∷ []))
    ∷ line (done (after (claim 1 2 0 99) empty)) (done one)
    ∷ line (done (after (claim 2 1 100 199) one)) (done two)
    ∷ line (grants (claim 3 1 99 100) two) (refused 32 [])
    ∷ line (done (after (claim 3 1 99 100) two)) (done two)
    ∷ line (grants (claim 3 1 99 100) back) (done (3 ∷ []))
    ∷ line (done (after (claim 3 1 99 100) back)) (done three)
    ∷ line (grants (claim 4 1 200 201) three) (refused 33 [])
    ∷ []

-- the conflicting types of what is held
unfoldable pub between : ℕ → ℕ → ℕ → ℕ → ℕ → ℕ → ℕ → Line
between held first last asked from to types = line (done (conflict (claim 1 held first last) (claim 2 asked from to) ∷ [])) (done (types ∷ []))

unfoldable pub ours : List Line
ours =
    between 2 0 99 1 99 99 2
    ∷ between 2 0 99 1 100 100 0
    ∷ between 1 0 99 1 0 99 0
    ∷ between 3 0 99 1 0 99 2
    ∷ between 3 0 99 2 0 99 3
    ∷ between 1 0 99 2 0 99 1
    ∷ between 48 5 5 16 6 6 0
    ∷ between 48 5 6 16 6 6 32
    ∷ between 204 0 0 204 9 9 204
    ∷ between 64 0 0 64 9 9 0
    ∷ between 2 0 9 8 0 9 0
    ∷ line (done (conflict (claim 1 255 0 9) (claim 1 255 0 9) ∷ [])) (done (0 ∷ []))
    ∷ line (grants (claim 0 1 0 0) empty) (refused 31 [])
    ∷ line (grants (claim 1 0 0 0) empty) (refused 31 [])
    ∷ line (grants (claim 1 256 0 0) empty) (refused 31 [])
    ∷ line (grants (claim 1 8 1 0) empty) (refused 31 [])
    ∷ line (grants (claim 0 1 0 0) (drop 1 empty)) (refused 30 [])
    ∷ line (grants (claim 3 2 0 99) two) (refused 32 [])
    ∷ line (says_of (ask_says (claim 3 2 0 199) (replicate 25 255)) two) (refused 35 (2 ∷ []))
    ∷ line (says_of (ask_says (claim 3 4 0 0) []) two) (done (0 ∷ []))
    ∷ []

-- the widest grant
unfoldable pub widest : List Line
widest =
    line (widens (claim 1 2 5 9) empty) (done (1 ∷ 0 ∷ last_byte ∷ []))
    -- a rival on the left, away and touching; one's own token is none
    ∷ line (widens (claim 2 1 150 199) one) (done (2 ∷ 100 ∷ last_byte ∷ []))
    ∷ line (widens (claim 2 1 100 100) one) (done (2 ∷ 100 ∷ last_byte ∷ []))
    ∷ line (widens (claim 1 1 150 199) one) (done (2 ∷ 0 ∷ last_byte ∷ []))
    -- on the right; a read is no rival of a read
    ∷ line (widens (claim 3 2 5 9) back) (done (3 ∷ 0 ∷ 99 ∷ []))
    ∷ line (widens (claim 3 2 99 99) back) (done (3 ∷ 0 ∷ 99 ∷ []))
    ∷ line (widens (claim 3 1 5 9) back) (done (3 ∷ 0 ∷ last_byte ∷ []))
    -- on both sides, the nearer of two on each, wherever they stand
    ∷ line (widens (claim 9 1 50 50) far_and_near) (done (5 ∷ 41 ∷ 59 ∷ []))
    ∷ line (widens (claim 9 1 15 15) far_and_near) (done (5 ∷ 11 ∷ 39 ∷ []))
    ∷ line (widens (claim 9 1 41 59) far_and_near) (done (5 ∷ 41 ∷ 59 ∷ []))
    -- status and open types go by no range, and bound none
    ∷ line (widens (claim 1 64 5 5) two) (refused 33 [])
    ∷ line (widens (claim 2 64 5 5) one) (done (2 ∷ 0 ∷ last_byte ∷ []))
    ∷ line (widens (claim 1 1 5 5) status) (done (2 ∷ 0 ∷ last_byte ∷ []))
    -- refused as grant is: 30, 31, 32 before 33
    ∷ line (widens (claim 0 1 0 0) (drop 1 empty)) (refused 30 [])
    ∷ line (widens (claim 2 1 9 8) empty) (refused 31 [])
    ∷ line (widens (claim 1 8 5 5) status) (refused 32 [])
    ∷ line (widens (claim 3 1 99 100) two) (refused 32 [])
    ∷ line (widens (claim 4 1 200 201) three) (refused 33 [])
    ∷ []

unfoldable pub day : List Line
day = starred ++ (others ++ (ours ++ widest))
