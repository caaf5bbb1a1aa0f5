-- The sample day, whole: every starred case of 01 through the calls as it has them, the day's other token cases, and our own of access.
use Rattle.std.specs.Prelude.{true, false, List, [], ◌∷◌, ◌++◌, ℕ, drop, replicate}
use Rattle.words.specs.Said.{Said, done, refused, left}
use Rattle.words.specs.Lines.{Line, line}
use Rattle.words.specs.Realm.{unknown_realm}
use Rattle.list.specs.Day.{realm_r, realm_s, list_e, starred as listsStarred}
use Rattle.evaluate.specs.declared.asking.File.{File}
use Rattle.rights.specs.Day.{caller, the_file, the_directory, starred as rightsStarred}
use Rattle.rights.specs.declared.guard.Guard.TheVariants.{List as ByList, Mode}
use Rattle.claims.specs.declared.claim.Claim.{Claim}
use Rattle.table.specs.Layout.{table_of}
use Rattle.table.specs.Call.{says_of, left_of}
use Rattle.table.specs.Day.{claim, empty, one, two, back, three}
use Rattle.tokens.specs.Grant.{granted}
use Rattle.tokens.specs.Ask.{list_for}
use Rattle.tokens.specs.Day.{status}
use Rattle.access.specs.Needs.{needed}
use Rattle.access.specs.Access.{Access, access_of, access_says}
use Rattle.desk.specs.Grant.{grant_says}
use Rattle.desk.specs.Ask.{ask_says}

-- a user of realm R by E; the owner may do all
unfoldable pub user : ℕ → ℕ → Access
user id group = access_of list_e [] (caller realm_r id group) the_file ByList

unfoldable pub owner : Access
owner = user 9 0

unfoldable pub visitor : Access
visitor = access_of list_e [] (caller realm_s 7 0) the_file ByList

-- the owner by a mode, with a list that is no list
unfoldable pub by_mode : File → ℕ → Access
by_mode file mode = access_of (200 ∷ []) [] (caller realm_r 9 0) file (Mode realm_r mode)

unfoldable pub grants : Access → Claim → List ℕ → Said
grants access c = says_of (grant_says c access)

unfoldable pub after : Access → Claim → List ℕ → List ℕ
after access c = left_of (grant_says c access) (granted c)

-- with a list buffer of so many bytes, each 255
unfoldable pub asks : Access → ℕ → Claim → List ℕ → Said
asks access n c = says_of (ask_says c access (replicate n 255))

unfoldable pub lists : Access → ℕ → Claim → List ℕ → Said
lists access n c bytes = done (left (asks access n c bytes) (list_for c (table_of bytes)) (replicate n 255))

unfoldable pub needing : ℕ → ℕ → ℕ → Line
needing types file directory = line (done (needed false types ∷ needed true types ∷ [])) (done (file ∷ directory ∷ []))

unfoldable pub judging : Access → ℕ → Said → Line
judging access types want = line (access_says access types) want

-- every line marked * in 01
unfoldable pub starred : List Line
starred =
    rightsStarred
    ++ listsStarred
    -- host 2, data read 100 to 199: number 2, no conflict
    ++ line (grants owner (claim 2 1 100 199) one) (done (2 ∷ []))
    ∷ line (asks owner 0 (claim 2 1 100 199) one) (done (0 ∷ []))
    -- host 3 asks data read 99 to 100: the whole list
    ∷ line (asks owner 13 (claim 3 1 99 100) two) (done (1 ∷ []))
    ∷ line (lists owner 13 (claim 3 1 99 100) two) (done (3 ∷ 0 ∷ 0 ∷ 0 ∷ 0 ∷ 0 ∷ 0 ∷ 0 ∷ 1 ∷ 0 ∷ 1 ∷ 0 ∷ 2 ∷ []))
    -- host 2 is granted status read 900 to 900; host 1's status write 5 to 5 against it: the whole list, and 32
    ∷ line (grants owner (claim 2 4 900 900) empty) (done (1 ∷ []))
    ∷ line (done (after owner (claim 2 4 900 900) empty)) (done status)
    ∷ line (asks owner 13 (claim 1 8 5 5) status) (done (1 ∷ []))
    ∷ line (lists owner 13 (claim 1 8 5 5) status) (done (3 ∷ 0 ∷ 0 ∷ 0 ∷ 0 ∷ 0 ∷ 0 ∷ 0 ∷ 1 ∷ 0 ∷ 2 ∷ 0 ∷ 4 ∷ []))
    ∷ line (grants owner (claim 1 8 5 5) status) (refused 32 [])
    ∷ []

unfoldable pub others : List Line
others =
    line (grants owner (claim 1 2 0 99) empty) (done (1 ∷ []))
    ∷ line (done (after owner (claim 2 1 100 199) one)) (done two)
    ∷ line (grants owner (claim 3 1 99 100) two) (refused 32 [])
    ∷ line (grants owner (claim 3 1 99 100) back) (done (3 ∷ []))
    ∷ line (done (after owner (claim 3 1 99 100) back)) (done three)
    ∷ line (grants owner (claim 4 1 200 201) three) (refused 33 [])
    ∷ []

-- what each type needs, on a file and on a directory; all together
unfoldable pub types : List Line
types =
    needing 1 1 1
    ∷ needing 2 2 48
    ∷ needing 4 1 1
    ∷ needing 8 8 8
    ∷ needing 16 1 1
    ∷ needing 32 2 48
    ∷ needing 64 1 1
    ∷ needing 128 2 48
    ∷ needing 255 11 57
    ∷ []

unfoldable pub ours : List Line
ours =
    -- rights 15, 3, 1, 4 and none
    judging owner 255 (done [])
    ∷ judging (user 7 0) 2 (done [])
    ∷ judging (user 7 0) 8 (refused 24 [])
    ∷ judging (user 8 4) 85 (done [])
    ∷ judging (user 8 4) 86 (refused 24 [])
    ∷ judging (user 8 0) 1 (refused 24 [])
    ∷ judging visitor 1 (refused 24 [])
    -- on a directory insert and delete, which a mode's write brings; on a file write
    ∷ judging (by_mode the_directory 128) 2 (done [])
    ∷ judging (by_mode the_file 128) 2 (done [])
    ∷ judging (access_of list_e [] (caller realm_r 9 0) the_directory ByList) 2 (refused 24 [])
    -- 16 for a local realm, then 22, then 24
    ∷ judging (access_of [] [] (caller realm_r 9 0) the_file (Mode unknown_realm 512)) 1 (refused 16 (0 ∷ []))
    ∷ judging (by_mode the_file 512) 2 (refused 22 [])
    ∷ judging (by_mode the_file 0) 1 (refused 24 [])
    -- 30, 31, 23, the list's own, each before the next
    ∷ line (grants (access_of [] (replicate 33 4) (caller realm_r 9 0) the_file ByList) (claim 0 1 0 0) (drop 1 two)) (refused 30 [])
    ∷ line (grants (access_of [] (replicate 33 4) (caller realm_r 9 0) the_file ByList) (claim 0 1 0 0) two) (refused 31 [])
    ∷ line (grants (access_of [] (replicate 33 4) (caller realm_r 9 0) the_file ByList) (claim 3 1 99 100) two) (refused 23 [])
    ∷ line (grants (access_of [] [] (caller realm_r 9 0) the_file ByList) (claim 3 1 99 100) two) (refused 11 (0 ∷ []))
    -- 24 before 32, before 33 and before 35
    ∷ line (grants visitor (claim 3 1 99 100) two) (refused 24 [])
    ∷ line (grants visitor (claim 4 1 200 201) three) (refused 24 [])
    ∷ line (asks visitor 0 (claim 3 1 99 100) two) (refused 24 [])
    ∷ line (asks owner 12 (claim 3 1 99 100) two) (refused 35 (1 ∷ []))
    -- a refusal changes nothing
    ∷ line (done (after visitor (claim 2 1 100 199) one)) (done one)
    ∷ line (lists visitor 3 (claim 2 1 100 199) one) (done (255 ∷ 255 ∷ 255 ∷ []))
    ∷ []

unfoldable pub day : List Line
day = starred ++ others ++ types ++ ours
