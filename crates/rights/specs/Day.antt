-- The sample day's rights, and our own cases: each line is what is decided and what 01 says of it.
use Rattle.std.specs.Prelude.{List, [], ◌∷◌, ◌++◌, true, false, ℕ, take, drop, replicate}
use Rattle.words.specs.Said.{Said, done, refused}
use Rattle.words.specs.Lines.{Line, line}
use Rattle.words.specs.Realm.{zero_realm, unknown_realm}
use Rattle.words.specs.declared.realm.Realm.{Realm}
use Rattle.list.specs.Day.{realm_r, realm_s, header_r, list_e, day as listDay}
use Rattle.evaluate.specs.Evaluation.{Decided}
use Rattle.evaluate.specs.declared.asking.Caller.{Caller}
use Rattle.evaluate.specs.declared.asking.File.{File}
use Rattle.rights.specs.Deciding.{decided}
use Rattle.rights.specs.declared.guard.Guard.TheVariants.{List as ByList, Mode}

-- what is said, with the deciding record's place and length after its values
unfoldable pub shown : Said → ℕ → ℕ → Said
shown (done values) start size = done (values ++ (start ∷ size ∷ []))
shown (refused number values) start size = refused number (values ++ (start ∷ size ∷ []))

unfoldable pub gives : ℕ → ℕ → ℕ → Decided → Line
gives rights start size d = line (shown d.says d.start d.size) (done (rights ∷ start ∷ size ∷ []))

-- a refusal hands back the empty part at the beginning
unfoldable pub refusing : ℕ → List ℕ → Decided → Line
refusing number values d = line (shown d.says d.start d.size) (refused number (values ++ (0 ∷ 0 ∷ [])))

unfoldable pub caller : Realm → ℕ → ℕ → Caller
caller realm user group = record { realm = realm; user = user; group = group }

unfoldable pub nobody : Caller
nobody = caller unknown_realm 4294967294 4294967294

unfoldable pub the_file : File
the_file = record { owner = 9; group = 4; dir = false }

unfoldable pub the_directory : File
the_directory = record { owner = 9; group = 4; dir = true }

unfoldable pub by : List ℕ → List ℕ → Caller → Decided
by list groups c = decided list groups c the_file ByList

unfoldable pub by_mode : File → ℕ → List ℕ → Caller → Decided
by_mode file mode groups c = decided [] groups c file (Mode realm_r mode)

-- realm R's objects with a mask of 7, groups 6 and 7
unfoldable pub grouped : List ℕ
grouped = header_r ++ (2 ∷ 15 ∷ 3 ∷ 1 ∷ 4 ∷ 0 ∷ 5 ∷ 7 ∷ 8 ∷ 0 ∷ 0 ∷ 0 ∷ 6 ∷ 18 ∷ 8 ∷ 0 ∷ 0 ∷ 0 ∷ 7 ∷ 4 ∷ [])

-- with a mask of 5 any_other, and of the realm of sixteen such bytes user 7, groups 6 and 7, and all others
unfoldable pub foreign : ℕ → List ℕ
foreign byte =
    header_r
    ++ (2 ∷ 15 ∷ 3 ∷ 7 ∷ 4 ∷ 7 ∷ 5 ∷ 5 ∷ 6 ∷ 6 ∷ [])
    ++ (9 ∷ [])
    ++ replicate 16 byte
    ++ (0 ∷ 0 ∷ 0 ∷ 7 ∷ 3 ∷ 10 ∷ [])
    ++ replicate 16 byte
    ++ (0 ∷ 0 ∷ 0 ∷ 6 ∷ 1 ∷ 10 ∷ [])
    ++ replicate 16 byte
    ++ (0 ∷ 0 ∷ 0 ∷ 7 ∷ 6 ∷ 11 ∷ [])
    ++ replicate 16 byte
    ++ (7 ∷ [])

-- the lines marked * in 01
unfoldable pub starred : List Line
starred =
    -- owner 9 of R
    gives 15 17 2 (by list_e [] (caller realm_r 9 0))
    -- user 7
    ∷ gives 3 25 6 (by list_e [] (caller realm_r 7 0))
    -- user 8 with group 4
    ∷ gives 1 19 2 (by list_e [] (caller realm_r 8 4))
    -- user 8 without
    ∷ gives 4 21 2 (by list_e [] (caller realm_r 8 0))
    -- user 7 of another realm
    ∷ gives 0 0 0 (by list_e [] (caller realm_s 7 0))
    -- mode 416: owner, group, other
    ∷ gives 11 0 0 (by_mode the_file 416 [] (caller realm_r 9 0))
    ∷ gives 1 0 0 (by_mode the_file 416 [] (caller realm_r 8 4))
    ∷ gives 0 0 0 (by_mode the_file 416 [] (caller realm_r 8 0))
    ∷ []

unfoldable pub others : List Line
others =
    -- mode 488, directory: owner, group
    gives 63 0 0 (by_mode the_directory 488 [] (caller realm_r 9 0))
    ∷ gives 5 0 0 (by_mode the_directory 488 [] (caller realm_r 8 4))
    ∷ []

unfoldable pub ours : List Line
ours =
    -- a stranger with the owner's number, a stranger with the file's group
    gives 0 0 0 (by list_e [] (caller realm_s 9 0))
    ∷ gives 0 0 0 (by list_e [] (caller realm_s 8 4))
    -- a further group
    ∷ gives 1 19 2 (by list_e (6 ∷ 4 ∷ []) (caller realm_r 8 0))
    -- a user record before any group
    ∷ gives 3 25 6 (by list_e (4 ∷ []) (caller realm_r 7 4))
    -- all groups that match, group_obj the first; without the file's group the first of the others
    ∷ gives 7 19 2 (by grouped (7 ∷ 6 ∷ []) (caller realm_r 8 4))
    ∷ gives 6 25 6 (by grouped (7 ∷ 6 ∷ []) (caller realm_r 8 0))
    ∷ gives 4 31 6 (by grouped [] (caller realm_r 8 7))
    -- realm S: its user, its groups, its others
    ∷ gives 1 27 22 (by (foreign 18) (6 ∷ []) (caller realm_s 7 0))
    ∷ gives 5 49 22 (by (foreign 18) (6 ∷ 7 ∷ []) (caller realm_s 8 0))
    ∷ gives 5 93 18 (by (foreign 18) [] (caller realm_s 8 0))
    -- the default realm is not served by records of realm S, nor is user 7 of a third realm
    ∷ gives 7 21 2 (by (foreign 18) (6 ∷ []) (caller realm_r 7 0))
    ∷ gives 4 25 2 (by (foreign 18) (6 ∷ []) (caller (record { hi = 0; lo = 7 }) 7 0))
    -- an unauthenticated caller, with any_other and without
    ∷ gives 4 25 2 (by (foreign 18) [] nobody)
    ∷ gives 0 0 0 (by list_e [] nobody)
    -- 32 groups and 33, before the list is looked at
    ∷ gives 1 19 2 (by list_e (replicate 32 4) (caller realm_r 8 0))
    ∷ refusing 23 [] (by [] (replicate 33 4) (caller realm_r 8 0))
    -- the list's own refusal
    ∷ refusing 13 (25 ∷ []) (by (take 30 list_e) [] (caller realm_r 9 0))
    -- an unknown local realm, and it before the mode; a mode above 511, and it before the realm
    ∷ refusing 16 (0 ∷ []) (decided [] [] nobody the_file (Mode unknown_realm 512))
    ∷ refusing 22 [] (by_mode the_file 512 [] (caller realm_s 9 0))
    -- another realm than the local one
    ∷ gives 0 0 0 (by_mode the_file 511 [] (caller realm_s 9 4))
    -- control for the owner alone, who has no group's bits
    ∷ gives 8 0 0 (by_mode the_file 56 (4 ∷ []) (caller realm_r 9 4))
    -- write brings insert and delete on a directory, to all classes
    ∷ gives 2 0 0 (by_mode the_file 18 [] (caller realm_r 8 4))
    ∷ gives 50 0 0 (by_mode the_directory 18 (4 ∷ []) (caller realm_r 8 0))
    ∷ gives 50 0 0 (by_mode the_directory 18 [] (caller realm_r 8 0))
    ∷ []

-- E with the zero realm as the default realm
unfoldable pub zero_e : List ℕ
zero_e = (1 ∷ []) ++ replicate 16 0 ++ drop 17 list_e

-- callers of the zero realm (02, §2)
unfoldable pub local : List Line
local =
    -- by E as users of R: the owner, user 7, user 8 with group 4, primary or further, and without
    gives 15 17 2 (by list_e [] (caller zero_realm 9 0))
    ∷ gives 3 25 6 (by list_e [] (caller zero_realm 7 0))
    ∷ gives 1 19 2 (by list_e [] (caller zero_realm 8 4))
    ∷ gives 1 19 2 (by list_e (4 ∷ []) (caller zero_realm 8 0))
    ∷ gives 4 21 2 (by list_e [] (caller zero_realm 8 0))
    -- by group records, and by other_obj before any_other
    ∷ gives 6 25 6 (by grouped (7 ∷ 6 ∷ []) (caller zero_realm 8 0))
    ∷ gives 7 21 2 (by (foreign 18) [] (caller zero_realm 8 0))
    -- half zero is another realm
    ∷ gives 0 0 0 (by list_e [] (caller (record { hi = 0; lo = 1 }) 9 4))
    ∷ gives 0 0 0 (by list_e [] (caller (record { hi = 1; lo = 0 }) 9 4))
    -- foreign records of the zero realm stand, and serve neither its callers nor others
    ∷ gives 7 21 2 (by (foreign 0) (6 ∷ []) (caller zero_realm 7 0))
    ∷ gives 4 25 2 (by (foreign 0) (6 ∷ []) (caller realm_s 7 0))
    -- where it is the default realm it is so for no other, and a foreign record that names it is forbidden
    ∷ gives 15 17 2 (by zero_e [] (caller zero_realm 9 0))
    ∷ gives 0 0 0 (by zero_e [] (caller realm_r 9 0))
    ∷ refusing 16 (31 ∷ []) (by (zero_e ++ drop 27 (foreign 0)) [] (caller zero_realm 9 0))
    -- the list's refusals and 23 as for anyone
    ∷ refusing 13 (25 ∷ []) (by (take 30 list_e) [] (caller zero_realm 9 0))
    ∷ refusing 23 [] (by list_e (replicate 33 4) (caller zero_realm 9 0))
    -- by a mode a realm like any other: nothing where the local realm is another, all that its user has where it is that one
    ∷ gives 0 0 0 (by_mode the_file 511 [] (caller zero_realm 9 4))
    ∷ gives 15 0 0 (decided [] [] (caller zero_realm 9 0) the_file (Mode zero_realm 511))
    ∷ gives 0 0 0 (decided [] [] (caller realm_r 9 0) the_file (Mode zero_realm 511))
    ∷ []

-- with the lists' own lines
unfoldable pub day : List Line
day = listDay ++ (starred ++ (others ++ (ours ++ local)))
