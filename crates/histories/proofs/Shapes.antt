-- Every call answers in its shape: so many values, or one of its refusals with the value that goes with it. Assumes nothing.
use Rattle.std.specs.Prelude.{if◌then◌else◌, Option, None, Some, Ok, Err}
use mathlib.Core.Path.{◌≡◌, refl, sym}
use mathlib.Core.Bool.{Bool, true, false, cond, not, ◌&&◌}
use mathlib.Core.List.{List, [], ◌∷◌}
use Prim.Native.Nat.{ℕ}
use native.Mathlib.Omega.{arith}
use borrow.Author.Tests.{eqb-true}
use lib.Bits.{bit_and}
use lib.Dec.{eqb, ltb, leb}
use lib.ListN.{length, get_or, drop}
use Rattle.words.specs.Test.{any_of, all_of}
use Rattle.words.specs.Said.{Said, done, refused, and_then}
use Rattle.words.specs.Realm.{unknown_realm, same_realm, realm_at}
use Rattle.words.specs.declared.realm.Realm.{Realm}
use Rattle.words.proofs.Tests.{differ, and_left, and_right}
use Rattle.records.specs.Kind.{size, is_known}
use Rattle.list.specs.Fault.{begins, no_record, fault, end_fault}
use Rattle.records.specs.Reading.{Read, read_as, read_of, when_whole, record_of, record_values, read_says}
use Rattle.list.specs.Walking.{Step, seen_of, walk_after, refused_or, heard, step_of, walk_values, met_values, step_says}
use Rattle.list.specs.declared.walk.Walk.{Walk}
use Rattle.list.specs.Checking.{Found, cut, records, refused_at, passed, faults_after, seen_in, check_says}
use Rattle.records.specs.declared.records.Record.{Record}
use Rattle.words.specs.Refusal.{number_of, refusal_number, refusal_value, values_in, refusal_says, says_by}
use Rattle.words.specs.declared.refusal.Fault.{Fault}
use Rattle.words.specs.declared.refusal.Fault.TheVariants.{TooLong, NoDefaultRealm, UnknownKind, CutShort, RightsAbove63, OutOfOrder, ForbiddenRealm, ObjectMissing, MaskMissing, ControlMissing}
use Rattle.words.specs.declared.refusal.Refusal.TheVariants.{Faulty}
use Rattle.evaluate.specs.Evaluation.{Decided, bare, unless_too_many, unless_refused, by_step, list_gives, evaluation}
use Rattle.evaluate.specs.declared.asking.Caller.{Caller}
use Rattle.evaluate.specs.declared.asking.File.{File}
use Rattle.rights.specs.Mode.{mode_rights}
use Rattle.rights.specs.Deciding.{by_mode, by_guard, decided}
use Rattle.rights.specs.declared.guard.Guard.{Guard}
use Rattle.rights.specs.declared.guard.Guard.TheVariants.{List as ByList, Mode}
use Rattle.entry.specs.Entry.{is_entry}
use Rattle.entry.specs.NewList.{putting, dropping, has_entry}
use Rattle.entry.specs.Plan.{put_judged, drop_judged}
use Rattle.entry.specs.declared.entries.Entry.{Entry}
use Rattle.edit.specs.Editing.{room_says as spaceSays, put_says, drop_says as dropEntrySays}
use Rattle.claims.specs.Types.{lacks}
use Rattle.claims.specs.Claim.{unfit, malformed}
use Rattle.claims.specs.declared.claim.Claim.{Claim}
use Rattle.table.specs.Table.{Table, limit, is_free, is_in_the_way}
use Rattle.table.specs.Layout.{table_of}
use Rattle.table.specs.Form.{is_length, well_formed}
use Rattle.table.specs.Fill.{fill_says}
use Rattle.table.specs.Call.{says_of}
use Rattle.tokens.specs.Grant.{last_number, room_says, request_says, serve_says, grant_says as plainGrantSays}
use Rattle.tokens.specs.Widest.{with_more}
use Rattle.tokens.specs.Ask.{in_the_way, list_for, list_says, ask_says as plainAskSays}
use Rattle.returns.specs.Return.{is_of, types_in, token_in, return_says}
use Rattle.returns.specs.DropHost.{drop_says}
use Rattle.access.specs.Access.{Access, sufficient, permits, access_says}
use Rattle.access.specs.Needs.{needed}
use Rattle.desk.specs.Order.{judged_says}
use Rattle.desk.specs.Grant.{grant_says}
use Rattle.desk.specs.Ask.{ask_says}
use Rattle.histories.specs.Shape.{Shape, shape, is_answer, is_answer_or_end, faults, of_read, of_step, of_check, of_evaluate, of_rights, of_judge, of_plan_put, of_plan_drop, of_put, of_drop, of_fill, of_ask, of_ask_unjudged, of_grant, of_grant_unjudged, of_grant_widest, of_grant_widest_unjudged, of_return, of_drop_host}

-- what is said, if it is refused, is a refusal of the shape
unfoldable pub refuses : Shape → Said → Bool
refuses s (done values) = true
refuses s (refused number values) = is_answer s (refused number values)

answers_refuse : (s : Shape) (said : Said) → is_answer s said ≡ true → refuses s said ≡ true
unfolding refuses
answers_refuse s (done values) p = refl
answers_refuse s (refused number values) p = p

-- what each of some numbers passes, a number among them passes
pub at_member : (test : ℕ → Bool) (xs : List ℕ) → all_of test xs ≡ true → (number : ℕ) → any_of (eqb number) xs ≡ true → test number ≡ true
unfolding any_of all_of
at_member test [] all number e = absurd (differ (sym e))
at_member test (x ∷ xs) all number e = go (eqb number x) (test x) refl refl all e (λ a. at_member test xs a number)
  where
    go : (b c : Bool) → eqb number x ≡ b → test x ≡ c → cond c (all_of test xs) false ≡ true → cond b true (any_of (eqb number) xs) ≡ true
        → (all_of test xs ≡ true → any_of (eqb number) xs ≡ true → test number ≡ true) → test number ≡ true
    go b false p q a f rest = absurd (differ (sym a))
    go true true p q a f rest = rw (eqb-true number x p) q
    go false true p q a f rest = rest a f

-- the refusals of one shape are among those of another
abbrev all_in : List ℕ → List ℕ → Bool
all_in xs ys = all_of (λ n. any_of (eqb n) ys) xs

unfoldable pub within : Shape → Shape → Bool
within a b = all_in a.plain b.plain && all_in a.valued b.valued

pub wider : (a b : Shape) → within a b ≡ true → (said : Said) → is_answer a said ≡ true → refuses b said ≡ true
unfolding within refuses is_answer
wider a b w (done values) p = refl
wider a b w (refused number []) p = at_member (λ n. any_of (eqb n) b.plain) a.plain (and_left (all_in a.plain b.plain) (all_in a.valued b.valued) w) number p
wider a b w (refused number (value ∷ [])) p = at_member (λ n. any_of (eqb n) b.valued) a.valued (and_right (all_in a.plain b.plain) (all_in a.valued b.valued) w) number p
wider a b w (refused number (value ∷ other ∷ more)) p = absurd (differ (sym p))

wider_answer : (a b : Shape) → within a b ≡ true → a.values ≡ b.values → (said : Said) → is_answer a said ≡ true → is_answer b said ≡ true
unfolding refuses is_answer
wider_answer a b w v (done values) p = rw (← v) p
wider_answer a b w v (refused number values) p = wider a b w (refused number values) p

-- of a choice, of two that come one after the other, of bytes
module _ (s : Shape) where
  either_way : (b : Bool) (x y : Said) → is_answer s x ≡ true → is_answer s y ≡ true → is_answer s (if b then x else y) ≡ true
  either_way true x y p q = p
  either_way false x y p q = q

  one_after : (x y : Said) → refuses s x ≡ true → is_answer s y ≡ true → is_answer s (and_then x y) ≡ true
  unfolding and_then refuses
  one_after (done values) y p q = q
  one_after (refused number values) y p q = p

  of_bytes : (says : Table → Said) (bytes : List ℕ) → is_answer s (refused 30 []) ≡ true → ((t : Table) → is_answer s (says t) ≡ true) → is_answer s (says_of says bytes) ≡ true
  unfolding says_of
  of_bytes says bytes p all = either_way (well_formed bytes) (says (table_of bytes)) (refused 30 []) (all (table_of bytes)) p

-- a list's own: 10 to 19, each with its place
fault_answer : (at : ℕ) (fault : Fault) → is_answer of_check (refused (number_of fault) (at ∷ [])) ≡ true
unfolding number_of is_answer of_check shape faults any_of
fault_answer at TooLong = refl
fault_answer at NoDefaultRealm = refl
fault_answer at UnknownKind = refl
fault_answer at CutShort = refl
fault_answer at RightsAbove63 = refl
fault_answer at OutOfOrder = refl
fault_answer at ForbiddenRealm = refl
fault_answer at ObjectMissing = refl
fault_answer at MaskMissing = refl
fault_answer at ControlMissing = refl

fault_answers : (at : ℕ) (fault : Option Fault) → is_answer of_check (refused_at at fault) ≡ true
unfolding refused_at is_answer of_check shape
fault_answers at None = refl
fault_answers at (Some fault) = fault_answer at fault

faults_answer : (home : Realm) (earlier : Record) (all : List Found) → is_answer of_check (faults_after home earlier all) ≡ true
unfolding faults_after is_answer of_check shape
faults_answer home earlier [] = refl
faults_answer home earlier (f ∷ fs) =
    one_after of_check _ _ (answers_refuse of_check _ (fault_answers f.at (fault home earlier f.read))) (faults_answer home (passed f.read) fs)

pub check_answers : (list : List ℕ) → is_answer of_check (check_says list) ≡ true
unfolding check_says is_answer of_check shape faults any_of
check_answers list =
    either_way of_check (ltb 4096 (length list)) (refused 10 (0 ∷ [])) _ refl
    (either_way of_check (not (begins list)) (refused 11 (0 ∷ [])) _ refl
    (one_after of_check _ _ (answers_refuse of_check _ (faults_answer (realm_at 1 list) no_record (cut list))) (fault_answers (length list) (end_fault (seen_in (records list))))))

-- a record read, and a step of the walk
pub read_answers : (tail : List ℕ) → is_answer_or_end of_read (read_says (read_of tail)) ≡ true
unfolding read_of read_as read_says record_values number_of is_answer_or_end is_answer of_read shape any_of
read_answers tail = go (eqb (length tail) 0) (not (is_known (get_or tail 0 0))) (ltb (length tail) (size (get_or tail 0 0)))
  where
    go : (a b c : Bool)
        → is_answer_or_end of_read (read_says (if a then Ok None else if b then Err UnknownKind else if c then Err CutShort else Ok (Some (record_of (get_or tail 0 0) tail)))) ≡ true
    go true b c = refl
    go false true c = refl
    go false false true = refl
    go false false false = refl

refused_or_lem : (fault : Option Fault) (place : ℕ) (step : Step) → is_answer_or_end of_step (step_says step) ≡ true
    → is_answer_or_end of_step (step_says (refused_or fault place step)) ≡ true
unfolding refused_or says_by refusal_says refusal_number refusal_value values_in is_answer_or_end refuses within of_check of_step shape faults any_of all_of
refused_or_lem None place step q = q
refused_or_lem (Some fault) place step q = wider of_check of_step refl (refused (number_of fault) (place ∷ [])) (fault_answer place fault)

met : (walk : Walk) (read : Read) → is_answer_or_end of_step (step_says (when_whole read (λ r. Ok (Some (r, walk_after walk r))) (Ok None))) ≡ true
unfolding when_whole says_by met_values record_values walk_values is_answer_or_end is_answer of_step shape
met walk (Ok None) = refl
met walk (Ok (Some r)) = refl
met walk (Err fault) = refl

pub step_answers : (walk : Walk) (list : List ℕ) → is_answer_or_end of_step (step_says (step_of walk list)) ≡ true
unfolding step_of heard says_by met_values refusal_says refusal_number refusal_value values_in number_of is_answer_or_end is_answer of_step shape faults any_of
step_answers walk list = go (ltb 4096 (length list)) (eqb walk.at 0 && not (begins list)) (leb (length list) walk.at)
  where
    go : (a b c : Bool)
        → is_answer_or_end of_step (step_says (if a then Err (Faulty TooLong 0) else if b then Err (Faulty NoDefaultRealm 0) else
        if c then refused_or (end_fault (seen_of walk.marks)) (length list) (Ok None) else heard walk (read_of (drop walk.at list)))) ≡ true
    go true b c = refl
    go false true c = refl
    go false false true = refused_or_lem (end_fault (seen_of walk.marks)) (length list) (Ok None) refl
    go false false false =
        let read = read_of (drop walk.at list) in
        refused_or_lem (fault walk.home walk.earlier read) walk.at _ (met walk read)

-- the check's refusals are among those of each call that is lent a list
check_refuses : (s : Shape) → within of_check s ≡ true → (list : List ℕ) → refuses s (check_says list) ≡ true
check_refuses s w list = wider of_check s w (check_says list) (check_answers list)

-- rights: 23, the list's own, 16 and 22 with a mode
unless_answers : (s : Shape) (said : Said) (d : Decided) → refuses s said ≡ true → is_answer s d.says ≡ true → is_answer s (unless_refused said d).says ≡ true
unfolding unless_refused bare refuses
unless_answers s (done values) d p q = q
unless_answers s (refused number values) d p q = p

list_gives_lem : (list groups : List ℕ) (caller : Caller) (file : File) → is_answer of_evaluate (list_gives list groups caller file).says ≡ true
unfolding list_gives by_step within is_answer of_evaluate of_check shape faults any_of all_of
list_gives_lem list groups caller file = unless_answers of_evaluate (check_says list) _ (check_refuses of_evaluate refl list) refl

-- 23 comes first
too_many_answers : (s : Shape) → is_answer s (refused 23 []) ≡ true → (groups : List ℕ) (d : Decided) → is_answer s d.says ≡ true → is_answer s (unless_too_many groups d).says ≡ true
unfolding unless_too_many bare
too_many_answers s p groups d q = go (ltb 32 (length groups))
  where
    go : (b : Bool) → is_answer s (if b then bare (refused 23 []) else d).says ≡ true
    go true = p
    go false = q

pub evaluation_answers : (list groups : List ℕ) (caller : Caller) (file : File) → is_answer of_evaluate (evaluation list groups caller file).says ≡ true
unfolding evaluation is_answer of_evaluate shape any_of
evaluation_answers list groups caller file = too_many_answers of_evaluate refl groups _ (list_gives_lem list groups caller file)

mode_answers : (groups : List ℕ) (caller : Caller) (file : File) (local : Realm) (mode : ℕ) → is_answer of_rights (by_mode groups caller file local mode).says ≡ true
unfolding by_mode bare is_answer of_rights shape faults any_of
mode_answers groups caller file local mode = go (same_realm local unknown_realm) (ltb 511 mode)
  where
    go : (a b : Bool) → is_answer of_rights (if a then bare (refused 16 (0 ∷ [])) else if b then bare (refused 22 []) else bare (done (mode_rights groups caller file local mode ∷ []))).says ≡ true
    go true b = refl
    go false true = refl
    go false false = refl

guard_answers : (guard : Guard) (list groups : List ℕ) (caller : Caller) (file : File) → is_answer of_rights (by_guard guard list groups caller file).says ≡ true
unfolding by_guard within of_evaluate of_rights shape faults any_of all_of
guard_answers ByList list groups caller file = wider_answer of_evaluate of_rights refl refl _ (list_gives_lem list groups caller file)
guard_answers (Mode local mode) list groups caller file = mode_answers groups caller file local mode

pub decided_answers : (list groups : List ℕ) (caller : Caller) (file : File) (guard : Guard) → is_answer of_rights (decided list groups caller file guard).says ≡ true
unfolding decided is_answer of_rights shape any_of
decided_answers list groups caller file guard = too_many_answers of_rights refl groups _ (guard_answers guard list groups caller file)

-- and then 24
permits_answers : (said : Said) (needs : ℕ) → is_answer of_rights said ≡ true → is_answer of_judge (permits said needs) ≡ true
unfolding permits sufficient within refuses is_answer of_rights of_judge shape faults any_of all_of
permits_answers (done values) needs p = either_way of_judge (not (eqb (bit_and (get_or values 0 0) needs) needs)) (refused 24 []) (done []) refl refl
permits_answers (refused number values) needs p = wider of_rights of_judge refl (refused number values) p

pub access_answers : (access : Access) (types : ℕ) → is_answer of_judge (access_says access types) ≡ true
unfolding access_says
access_answers a types = permits_answers _ (needed a.file.dir types) (decided_answers a.list a.groups a.caller a.file a.guard)

-- edits, judged: the old list's own, 12, 20, the new list's own
unfoldable drop_judging : Shape
drop_judging = shape 0 (20 ∷ []) faults

module _ (list : List ℕ) (entry : Entry) where
  put_judged_lem : is_answer of_check (put_judged list entry) ≡ true
  unfolding put_judged is_answer of_check shape faults any_of
  put_judged_lem =
      one_after of_check _ _ (answers_refuse of_check _ (check_answers list))
      (either_way of_check (not (is_entry entry.kind)) (refused 12 (0 ∷ [])) _ refl (check_answers (putting list entry)))

  drop_judged_lem : is_answer drop_judging (drop_judged list entry) ≡ true
  unfolding drop_judged drop_judging within is_answer of_check shape faults any_of all_of
  drop_judged_lem =
      one_after drop_judging _ _ (check_refuses drop_judging refl list)
      (either_way drop_judging (not (is_entry entry.kind)) (refused 12 (0 ∷ [])) _ refl
      (either_way drop_judging (not (has_entry list entry)) (refused 20 []) _ refl
      (wider_answer of_check drop_judging refl refl (check_says (dropping list entry)) (check_answers (dropping list entry)))))

  -- and then what comes after them: the plan, or 21 and the length
  module _ (own : Said) where
    put_then : (s : Shape) → within of_check s ≡ true → is_answer s own ≡ true → is_answer s (and_then (put_judged list entry) own) ≡ true
    put_then s w p = one_after s _ _ (wider of_check s w _ put_judged_lem) p

    drop_then : (s : Shape) → within drop_judging s ≡ true → is_answer s own ≡ true → is_answer s (and_then (drop_judged list entry) own) ≡ true
    drop_then s w p = one_after s _ _ (wider drop_judging s w _ drop_judged_lem) p

  module _ (at size many n : ℕ) where
    pub plan_put_answers : is_answer of_plan_put (and_then (put_judged list entry) (done (at ∷ size ∷ many ∷ n ∷ []))) ≡ true
    unfolding within is_answer of_check of_plan_put shape faults any_of all_of
    plan_put_answers = put_then _ of_plan_put refl refl

    pub plan_drop_answers : is_answer of_plan_drop (and_then (drop_judged list entry) (done (at ∷ size ∷ many ∷ n ∷ []))) ≡ true
    unfolding within is_answer drop_judging of_plan_drop shape faults any_of all_of
    plan_drop_answers = drop_then _ of_plan_drop refl refl

  pub put_answers : (out : List ℕ) → is_answer of_put (put_says list entry out) ≡ true
  unfolding put_says spaceSays within is_answer of_check of_put shape faults any_of all_of
  put_answers out = put_then _ of_put refl (either_way of_put (ltb (length out) (length (putting list entry))) (refused 21 []) (done (length (putting list entry) ∷ [])) refl refl)

  pub drop_entry_answers : (out : List ℕ) → is_answer of_drop (dropEntrySays list entry out) ≡ true
  unfolding dropEntrySays spaceSays within is_answer drop_judging of_drop shape faults any_of all_of
  drop_entry_answers out = drop_then _ of_drop refl (either_way of_drop (ltb (length out) (length (dropping list entry))) (refused 21 []) (done (length (dropping list entry) ∷ [])) refl refl)

-- the calls on a table
pub fill_answers : (bytes : List ℕ) → is_answer of_fill (fill_says bytes) ≡ true
unfolding fill_says is_answer of_fill shape any_of
fill_answers bytes = either_way of_fill (is_length (length bytes)) (done []) (refused 30 []) refl refl

request_refuses : (s : Shape) → is_answer s (refused 31 []) ≡ true → (claim : Claim) (t : Table) → refuses s (request_says claim t) ≡ true
unfolding request_says refuses
request_refuses s p claim t = go (malformed claim (limit t))
  where
    go : (b : Bool) → refuses s (if b then refused 31 [] else done []) ≡ true
    go true = p
    go false = refl

serve_answers : (claim : Claim) (t : Table) → is_answer of_grant_unjudged (serve_says claim t) ≡ true
unfolding serve_says room_says is_answer of_grant_unjudged shape any_of
serve_answers claim t = go (any_of (is_in_the_way claim) t.slots) (any_of is_free t.slots) (eqb t.next last_number)
  where
    go : (a b c : Bool) → is_answer of_grant_unjudged (if a then refused 32 [] else if not b then refused 33 [] else if c then refused 34 [] else done (t.next ∷ [])) ≡ true
    go true b c = refl
    go false false c = refl
    go false true true = refl
    go false true false = refl

list_answers : (claim : Claim) (out : List ℕ) (t : Table) → is_answer of_ask_unjudged (list_says claim out t) ≡ true
unfolding list_says is_answer of_ask_unjudged shape any_of
list_answers claim out t =
    either_way of_ask_unjudged (ltb (length out) (length (list_for claim t))) (refused 35 (length (in_the_way claim t) ∷ [])) (done (length (in_the_way claim t) ∷ [])) refl refl

pub grant_unjudged_answers : (claim : Claim) (bytes : List ℕ) → is_answer of_grant_unjudged (says_of (plainGrantSays claim) bytes) ≡ true
unfolding plainGrantSays is_answer of_grant_unjudged shape any_of
grant_unjudged_answers claim bytes =
    of_bytes of_grant_unjudged (plainGrantSays claim) bytes refl
    (λ t. one_after of_grant_unjudged _ _ (request_refuses of_grant_unjudged refl claim t) (serve_answers claim t))

pub ask_unjudged_answers : (claim : Claim) (out bytes : List ℕ) → is_answer of_ask_unjudged (says_of (plainAskSays claim out) bytes) ≡ true
unfolding plainAskSays is_answer of_ask_unjudged shape any_of
ask_unjudged_answers claim out bytes =
    of_bytes of_ask_unjudged (plainAskSays claim out) bytes refl
    (λ t. one_after of_ask_unjudged _ _ (request_refuses of_ask_unjudged refl claim t) (list_answers claim out t))

module _ (s : Shape) (malformed-refused : is_answer s (refused 31 []) ≡ true) (judged : within of_judge s ≡ true) where
  judged_answers : (claim : Claim) (access : Access) (own : Table → Said) (t : Table) → is_answer s (own t) ≡ true
      → is_answer s (judged_says claim (access_says access claim.types) own t) ≡ true
  unfolding judged_says
  judged_answers claim access own t p =
      one_after s _ _ (request_refuses s malformed-refused claim t) (one_after s _ _ (wider of_judge s judged _ (access_answers access claim.types)) p)

pub grant_answers : (claim : Claim) (access : Access) (bytes : List ℕ) → is_answer of_grant (says_of (grant_says claim access) bytes) ≡ true
unfolding grant_says within is_answer of_judge of_grant of_grant_unjudged shape faults any_of all_of
grant_answers claim access bytes =
    of_bytes of_grant (grant_says claim access) bytes refl
    (λ t. judged_answers of_grant refl refl claim access (serve_says claim) t (wider_answer of_grant_unjudged of_grant refl refl (serve_says claim t) (serve_answers claim t)))

-- with two values more
more_answers : (a b : Shape) → a.values ≡ 1 → b.values ≡ 3 → a.plain ≡ b.plain → a.valued ≡ b.valued → (m n : ℕ) (said : Said) → is_answer a said ≡ true
    → is_answer b (with_more (m ∷ n ∷ []) said) ≡ true
unfolding with_more is_answer
more_answers a b v w p q m n (done []) e = absurd (omega (arith, v, eqb-true 0 a.values e))
more_answers a b v w p q m n (done (x ∷ [])) e = rw w refl
more_answers a b v w p q m n (done (x ∷ y ∷ more)) e = absurd (omega (arith, v, eqb-true (length (x ∷ y ∷ more)) a.values e))
more_answers a b v w p q m n (refused number []) e = rw (← p) e
more_answers a b v w p q m n (refused number (value ∷ [])) e = rw (← q) e
more_answers a b v w p q m n (refused number (value ∷ other ∷ more)) e = e

pub grant_widest_answers : (claim : Claim) (access : Access) (bytes : List ℕ) (first last : ℕ)
    → is_answer of_grant_widest (with_more (first ∷ last ∷ []) (says_of (grant_says claim access) bytes)) ≡ true
unfolding of_grant of_grant_widest shape
grant_widest_answers claim access bytes first last =
    more_answers of_grant of_grant_widest refl refl refl refl first last (says_of (grant_says claim access) bytes) (grant_answers claim access bytes)

pub grant_widest_unjudged_answers : (claim : Claim) (bytes : List ℕ) (first last : ℕ)
    → is_answer of_grant_widest_unjudged (with_more (first ∷ last ∷ []) (says_of (plainGrantSays claim) bytes)) ≡ true
unfolding of_grant_unjudged of_grant_widest_unjudged shape
grant_widest_unjudged_answers claim bytes first last =
    more_answers of_grant_unjudged of_grant_widest_unjudged refl refl refl refl first last (says_of (plainGrantSays claim) bytes) (grant_unjudged_answers claim bytes)

pub ask_answers : (claim : Claim) (access : Access) (out bytes : List ℕ) → is_answer of_ask (says_of (ask_says claim access out) bytes) ≡ true
unfolding ask_says within is_answer of_judge of_ask of_ask_unjudged shape faults any_of all_of
ask_answers claim access out bytes =
    of_bytes of_ask (ask_says claim access out) bytes refl
    (λ t. judged_answers of_ask refl refl claim access (list_says claim out) t (wider_answer of_ask_unjudged of_ask refl refl (list_says claim out t) (list_answers claim out t)))

pub return_answers : (host number types : ℕ) (bytes : List ℕ) → is_answer of_return (says_of (return_says host number types) bytes) ≡ true
unfolding return_says is_answer of_return shape any_of
return_answers host number types bytes =
    of_bytes of_return (return_says host number types) bytes refl
    (λ t. go (unfit host types (limit t)) (any_of (is_of host number) t.slots) (lacks (types_in (token_in host number types t)) types))
  where
    go : (a b c : Bool) → is_answer of_return (if a then refused 31 [] else if not b then refused 36 [] else if c then refused 37 [] else done []) ≡ true
    go true b c = refl
    go false false c = refl
    go false true true = refl
    go false true false = refl

pub drop_answers : (host : ℕ) (bytes : List ℕ) → is_answer of_drop_host (says_of (drop_says host) bytes) ≡ true
unfolding drop_says is_answer of_drop_host shape any_of
drop_answers host bytes = of_bytes of_drop_host (drop_says host) bytes refl (λ t. either_way of_drop_host (eqb host 0) (refused 31 []) _ refl refl)
