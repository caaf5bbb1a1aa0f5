-- The sample day's lists, and our own cases: each line is what the check says of a list and what 01 says of it.
use Rattle.std.specs.Prelude.{List, [], ◌∷◌, ◌++◌, ℕ, take, drop, replicate}
use Rattle.words.specs.Said.{done, refused}
use Rattle.words.specs.Lines.{Line, line}
use Rattle.words.specs.declared.realm.Realm.{Realm}
use Rattle.list.specs.Checking.{check_says}

unfoldable pub fine : List ℕ → Line
fine list = line (check_says list) (done [])

unfoldable pub refused_with : ℕ → ℕ → List ℕ → Line
refused_with number place list = line (check_says list) (refused number (place ∷ []))

-- sixteen times 17, and sixteen times 18
unfoldable pub realm_r : Realm
realm_r = record { hi = 0x1111_1111_1111_1111; lo = 0x1111_1111_1111_1111 }

unfoldable pub realm_s : Realm
realm_s = record { hi = 0x1212_1212_1212_1212; lo = 0x1212_1212_1212_1212 }

-- kind 1 and realm R
unfoldable pub header_r : List ℕ
header_r = 1 ∷ replicate 16 17

-- user_obj, group_obj, other_obj, mask_obj
unfoldable pub objects : List ℕ
objects = 2 ∷ 15 ∷ 3 ∷ 5 ∷ 4 ∷ 4 ∷ 5 ∷ 3 ∷ []

unfoldable pub list_e : List ℕ
list_e = header_r ++ (objects ++ (7 ∷ 0 ∷ 0 ∷ 0 ∷ 7 ∷ 7 ∷ []))

unfoldable pub unknown_bytes : List ℕ
unknown_bytes = 255 ∷ 255 ∷ 255 ∷ 254 ∷ replicate 12 0

-- the lines marked * in 01
unfoldable pub starred : List Line
starred =
    -- E without its last byte
    refused_with 13 25 (take 30 list_e)
    -- without 5 3
    ∷ refused_with 18 29 (take 23 list_e ++ drop 25 list_e)
    -- empty
    ∷ refused_with 11 0 []
    ∷ []

unfoldable pub others : List Line
others =
    fine list_e
    -- header alone
    ∷ refused_with 17 17 header_r
    -- user_obj 7
    ∷ refused_with 19 31 (header_r ++ (2 ∷ 7 ∷ drop 19 list_e))
    ∷ []

unfoldable pub ours : List Line
ours =
    -- a first kind that is unknown
    refused_with 11 0 (200 ∷ [])
    -- a default realm cut short
    ∷ refused_with 13 0 (1 ∷ [])
    -- the unknown realm as default realm
    ∷ refused_with 16 0 (1 ∷ (unknown_bytes ++ drop 17 list_e))
    -- a kind above 11
    ∷ refused_with 12 31 (list_e ++ (12 ∷ []))
    -- rights of 64, also out of order
    ∷ refused_with 14 25 (header_r ++ (objects ++ (4 ∷ 64 ∷ [])))
    -- the same record twice
    ∷ refused_with 15 31 (list_e ++ (7 ∷ 0 ∷ 0 ∷ 0 ∷ 7 ∷ 0 ∷ []))
    -- ids rise as numbers
    ∷ fine (header_r ++ (objects ++ (8 ∷ 0 ∷ 0 ∷ 0 ∷ 255 ∷ 1 ∷ 8 ∷ 0 ∷ 0 ∷ 1 ∷ 0 ∷ 1 ∷ [])))
    -- a second default realm, also an unknown one; cut short it is 13
    ∷ refused_with 15 17 (header_r ++ (1 ∷ replicate 16 18))
    ∷ refused_with 15 17 (header_r ++ (1 ∷ unknown_bytes))
    ∷ refused_with 13 17 (header_r ++ (1 ∷ 18 ∷ []))
    -- a foreign record that names the unknown realm, or the default realm
    ∷ refused_with 16 25 (header_r ++ (objects ++ (9 ∷ (unknown_bytes ++ (0 ∷ 0 ∷ 0 ∷ 7 ∷ 1 ∷ [])))))
    ∷ refused_with 16 25 (header_r ++ (objects ++ (11 ∷ (replicate 16 17 ++ (1 ∷ [])))))
    ∷ fine (header_r ++ (objects ++ (11 ∷ (replicate 16 18 ++ (1 ∷ [])))))
    -- other_obj missing
    ∷ refused_with 17 23 (header_r ++ (2 ∷ 15 ∷ 3 ∷ 5 ∷ 5 ∷ 3 ∷ []))
    -- any_other alone wants a mask
    ∷ refused_with 18 25 (header_r ++ (2 ∷ 15 ∷ 3 ∷ 5 ∷ 4 ∷ 4 ∷ 6 ∷ 1 ∷ []))
    ∷ fine (header_r ++ (2 ∷ 15 ∷ 3 ∷ 5 ∷ 4 ∷ 4 ∷ []))
    ∷ []

unfoldable pub day : List Line
day = starred ++ (others ++ ours)
