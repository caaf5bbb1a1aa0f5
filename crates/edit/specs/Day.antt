-- Our own cases of editing: each line is what an edit says and what 01 says of it; of an edit that is made, the new list.
use Rattle.std.specs.Prelude.{List, [], ◌∷◌, ◌++◌, ℕ, take, drop, replicate}
use Rattle.words.specs.Said.{Said, done, refused}
use Rattle.words.specs.Lines.{Line, line}
use Rattle.words.specs.Realm.{zero_realm, unknown_realm}
use Rattle.words.specs.declared.realm.Realm.{Realm}
use Rattle.list.specs.Day.{realm_r, realm_s, header_r, objects, list_e}
use Rattle.entry.specs.NewList.{putting, dropping}
use Rattle.entry.specs.declared.entries.Entry.{Entry}
use Rattle.edit.specs.Editing.{put_says, drop_says}

unfoldable pub shown : Said → List ℕ → Said
shown (done values) new = done new
shown (refused number values) new = refused number values

unfoldable pub entry : ℕ → Realm → ℕ → ℕ → Entry
entry kind realm id rights = record { kind = kind; realm = realm; id = id; rights = rights }

unfoldable pub user : ℕ → ℕ → Entry
user id rights = entry 7 zero_realm id rights

unfoldable pub object : ℕ → ℕ → Entry
object kind rights = entry kind zero_realm 0 rights

-- an edit to a buffer of so many bytes
unfoldable pub put_to : ℕ → List ℕ → Entry → Said → Line
put_to size list e want = line (shown (put_says list e (replicate size 0)) (putting list e)) want

unfoldable pub drop_to : ℕ → List ℕ → Entry → Said → Line
drop_to size list e want = line (shown (drop_says list e (replicate size 0)) (dropping list e)) want

unfoldable pub put : List ℕ → Entry → Said → Line
put = put_to 64

unfoldable pub dropped : List ℕ → Entry → Said → Line
dropped = drop_to 64

-- without mask_obj
unfoldable pub bare : List ℕ
bare = header_r ++ (2 ∷ 15 ∷ 3 ∷ 5 ∷ 4 ∷ 4 ∷ [])

unfoldable pub puts : List Line
puts =
    -- at its place in the order, by kind and by id as a number
    put list_e (user 21 3) (done (list_e ++ (7 ∷ 0 ∷ 0 ∷ 0 ∷ 21 ∷ 3 ∷ [])))
    ∷ put list_e (user 5 1) (done (take 25 list_e ++ (7 ∷ 0 ∷ 0 ∷ 0 ∷ 5 ∷ 1 ∷ drop 25 list_e)))
    ∷ put list_e (object 6 1) (done (take 25 list_e ++ (6 ∷ 1 ∷ drop 25 list_e)))
    -- in place of the one of the same kind, realm and id
    ∷ put list_e (user 7 1) (done (take 30 list_e ++ (1 ∷ [])))
    ∷ put list_e (object 5 1) (done (take 23 list_e ++ (5 ∷ 1 ∷ drop 25 list_e)))
    -- a mask_obj that was not there
    ∷ put bare (object 5 3) (done (header_r ++ objects))
    -- with the realm and the id that its kind has
    ∷ put list_e (entry 9 realm_s 7 2) (done (list_e ++ (9 ∷ (replicate 16 18 ++ (0 ∷ 0 ∷ 0 ∷ 7 ∷ 2 ∷ [])))))
    ∷ put list_e (entry 11 realm_s 7 2) (done (list_e ++ (11 ∷ (replicate 16 18 ++ (2 ∷ [])))))
    ∷ put list_e (entry 7 unknown_realm 21 3) (done (list_e ++ (7 ∷ 0 ∷ 0 ∷ 0 ∷ 21 ∷ 3 ∷ [])))
    ∷ []

unfoldable pub drops : List Line
drops =
    dropped list_e (user 7 7) (done (take 25 list_e))
    -- whatever its rights byte
    ∷ dropped list_e (user 7 255) (done (take 25 list_e))
    ∷ dropped (header_r ++ objects) (object 5 0) (done bare)
    ∷ []

unfoldable pub refusals : List Line
refusals =
    -- the old list's own, before a kind outside 2 to 11
    put (take 30 list_e) (object 12 0) (refused 13 (25 ∷ []))
    -- a kind outside 2 to 11, before 20
    ∷ put list_e (entry 1 realm_s 0 0) (refused 12 (0 ∷ []))
    ∷ dropped list_e (object 12 0) (refused 12 (0 ∷ []))
    -- nothing to drop
    ∷ dropped list_e (user 8 7) (refused 20 [])
    ∷ dropped bare (object 5 3) (refused 20 [])
    -- the new list's own, with places in the new list
    ∷ put list_e (user 5 64) (refused 14 (25 ∷ []))
    ∷ put list_e (entry 11 realm_r 0 1) (refused 16 (31 ∷ []))
    ∷ put list_e (entry 11 unknown_realm 0 1) (refused 16 (31 ∷ []))
    ∷ dropped list_e (object 3 0) (refused 17 (29 ∷ []))
    ∷ dropped list_e (object 5 0) (refused 18 (29 ∷ []))
    ∷ put bare (object 6 1) (refused 18 (25 ∷ []))
    ∷ put list_e (object 2 7) (refused 19 (31 ∷ []))
    -- too short a buffer, last of all
    ∷ put_to 36 list_e (user 21 3) (refused 21 [])
    ∷ put_to 30 list_e (object 2 7) (refused 19 (31 ∷ []))
    ∷ drop_to 24 list_e (user 7 7) (refused 21 [])
    ∷ []

unfoldable pub day : List Line
day = puts ++ (drops ++ refusals)
