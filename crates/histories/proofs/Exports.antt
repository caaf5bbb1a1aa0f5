-- A history of exports is a history of the calls that they make; so the demands hold of them. Assumes nothing.
use Rattle.std.specs.Prelude.{if◌then◌else◌, Result, Ok, Err}
use mathlib.Core.Path.{◌≡◌, refl, sym, ◌∙◌, ap}
use mathlib.Core.Bool.{Bool, true, false, not, cond, ◌||◌, ◌&&◌}
use mathlib.Core.List.{List, [], ◌∷◌, ◌++◌, map}
use mathlib.Core.Logic.{◌⊎◌, inl, inr, ◌≢◌}
use Prim.Native.Nat.{ℕ, ◌≤◌}
use native.Mathlib.Omega.{arith}
use borrow.Author.Tests.{eqb-true, leb-true, not-true}
use lib.Dec.{eqb, leb}
use lib.ListN.{length, get_or}
use Rattle.words.specs.Test.{any_of, all_of}
use Rattle.words.specs.Said.{Said, done, refused, is_done}
use Rattle.words.specs.Refusal.{refusal_of, fault_of, number_of, refusal_number, refusal_value, values_in, refusal_says, says_by, number_says}
use Rattle.words.specs.declared.refusal.Refusal.{Refusal}
use Rattle.words.specs.declared.refusal.Refusal.TheVariants.{Conflict}
use Rattle.words.proofs.Tests.{differ, and_left, and_right, or_one}
use Rattle.words.proofs.Written.{number_fits}
use Rattle.list.specs.Checking.{check_says}
use Rattle.claims.specs.Claim.{with_range}
use Rattle.table.specs.Layout.{Fits}
use Rattle.table.specs.Fill.{fill_says, Fills as FillsTable}
use Rattle.table.specs.Call.{says_of}
use Rattle.returns.specs.Return.{return_says, Returns as ReturnsTypes}
use Rattle.returns.specs.DropHost.{drop_says, Drops as DropsTable}
use Rattle.audit.specs.Audit.{sound}
use Rattle.access.specs.Access.{Access}
use Rattle.access.specs.Needs.{needed}
use Rattle.desk.specs.Grant.{grant_says, Grants as GrantsToken}
use Rattle.tokens.specs.declared.granting.Granted.{Granted}
use Rattle.desk.specs.Widest.{GrantsWidest as GrantsWidestToken}
use Rattle.desk.specs.Ask.{ask_says, Asks as AsksTable}
use Rattle.desk.proofs.Determined.{grant_determined}
use Rattle.exchange.specs.Answer.{answer_for, answer_of, truth_says}
use Rattle.exchange.specs.Given.{claim_of, entry_of, caller_of, file_of, guard_of}
use Rattle.exchange.specs.declared.answer.Answer.{Answer}
use Rattle.exchange.specs.declared.given.Claim.{Claim}
use Rattle.mastarik.specs.Lists.{decided_for}
use Rattle.mastarik.specs.Tables.{Fills, Asks, Grants, GrantsWidest, Returns, DropsHost, Audits}
use Rattle.histories.specs.Shape.{Shape, shape, is_answer, faults, of_check, of_rights, of_put, of_drop, of_fill, of_ask, of_grant, of_grant_widest, of_return, of_drop_host, of_audit, of_needs}
use Rattle.histories.specs.History.{Counted, Ranged, granted, Leaves, RunsBy, Runs, Reached, Resumed, Gives, judged, widest}
use Rattle.histories.specs.Callback.{TurnLeaves, Returned}
use Rattle.histories.specs.Demands.{Ends, Again, Demand2Of, Demand3Of, NumbersOnceOf}
use Rattle.histories.specs.Exports.{done_by, said_by, Typed, Export, fill, ask, grant, grant_widest, give_back, drop_host, audit, ExportLeaves, ExportRuns, call_of, ReachedInC, ResumedInC, ExportsAreCalls, ResumedAreCalls, Answered, EndsInC, Demand1InC, Demand2InCOf, Demand2InC, TurnInC, TurnLeavesInC, ReturnedInC, turn_of, AgainInC, Demand3InCOf, Demand3InC, AskIsDoneInC, GivesInC, NumbersOnceInCOf, NumbersOnceInC, ResumingInC, WideningInC}
use Rattle.histories.proofs.Shapes.{at_member, within, refuses, wider, check_answers, decided_answers, put_answers, drop_entry_answers, fill_answers, ask_answers, grant_answers, grant_widest_answers, return_answers, drop_answers}
use Rattle.histories.proofs.Widening.{widening}
use Rattle.histories.proofs.Reaching.{numbers_once}
use Rattle.histories.proofs.Demands.{ends, table_ends, widest_ends, audit_answers, demand2, demand3, ask_is_done, resuming}

-- one value at most, or three; no refusal's number is 0, and none goes both with a value and without
unfoldable proper : Shape → Bool
proper s =
    (leb s.values 1 || eqb s.values 3)
    && (all_of (λ n. not (eqb n 0) && not (any_of (eqb n) s.valued)) s.plain
    && all_of (λ n. not (eqb n 0)) s.valued)

-- an answer leads back to what was said
module _ (s : Shape) (p : proper s ≡ true) where
  few : (s.values ≤ 1) ⊎ (s.values ≡ 3)
  unfolding proper
  few = go (or_one (leb s.values 1) (eqb s.values 3) (and_left (leb s.values 1 || eqb s.values 3) _ p))
    where
      go : (leb s.values 1 ≡ true) ⊎ (eqb s.values 3 ≡ true) → (s.values ≤ 1) ⊎ (s.values ≡ 3)
      go (inl q) = inl (leb-true s.values 1 q)
      go (inr q) = inr (eqb-true s.values 3 q)

  -- no other number of values
  no_other : (n : ℕ) → eqb n s.values ≡ true → 2 ≤ n → n ≢ 3 → ⊥
  no_other n e some other = go few
    where
      go : (s.values ≤ 1) ⊎ (s.values ≡ 3) → ⊥
      go (inl q) = omega (arith, q, some, eqb-true n s.values e)
      go (inr q) = other (eqb-true n s.values e ∙ q)

  plain_number : (number : ℕ) → any_of (eqb number) s.plain ≡ true → (not (eqb number 0) && not (any_of (eqb number) s.valued)) ≡ true
  unfolding proper
  plain_number number e =
      at_member (λ n. not (eqb n 0) && not (any_of (eqb n) s.valued)) s.plain
      (and_left (all_of (λ n. not (eqb n 0) && not (any_of (eqb n) s.valued)) s.plain) (all_of (λ n. not (eqb n 0)) s.valued) (and_right (leb s.values 1 || eqb s.values 3) _ p)) number e

  valued_number : (number : ℕ) → any_of (eqb number) s.valued ≡ true → not (eqb number 0) ≡ true
  unfolding proper
  valued_number number e =
      at_member (λ n. not (eqb n 0)) s.valued
      (and_right (all_of (λ n. not (eqb n 0) && not (any_of (eqb n) s.valued)) s.plain) (all_of (λ n. not (eqb n 0)) s.valued) (and_right (leb s.values 1 || eqb s.values 3) _ p)) number e

  way_back : (said : Said) → is_answer s said ≡ true → (start size : ℕ) → said_by s (answer_for said start size) ≡ said
  unfolding said_by answer_for is_answer
  way_back (done []) e start size = rw (← eqb-true 0 s.values e) refl
  way_back (done (v ∷ [])) e start size = rw (← eqb-true 1 s.values e) refl
  way_back (done (v ∷ w ∷ [])) e start size = absurd (no_other 2 e (omega arith) (λ q. omega (arith, q)))
  way_back (done (v ∷ w ∷ x ∷ [])) e start size = rw (← eqb-true 3 s.values e) refl
  way_back (done (v ∷ w ∷ x ∷ y ∷ more)) e start size = absurd (no_other (length (v ∷ w ∷ x ∷ y ∷ more)) e (omega arith) (λ q. omega (arith, q)))
  way_back (refused number []) e start size =
      let q = plain_number number e in
      rw (and_left (not (eqb number 0)) (not (any_of (eqb number) s.valued)) q, not-true (any_of (eqb number) s.valued) (and_right (not (eqb number 0)) (not (any_of (eqb number) s.valued)) q)) refl
  way_back (refused number (v ∷ [])) e start size = rw (valued_number number e, e) refl
  way_back (refused number (v ∷ w ∷ more)) e start size = absurd (differ (sym e))

  module _ {a : Answer} (said : Said) (start size : ℕ) (told : a ≡ answer_for said start size) (e : is_answer s said ≡ true) where
    back : said_by s a ≡ said
    back = ap (said_by s) told ∙ way_back said e start size

    answered : Answered s start size a
    answered = record { answers = rw back e; fields = rw back told }

-- every refusal of 01's table
abbrev all_refusals : Shape
all_refusals = shape 0 (20 ∷ 21 ∷ 22 ∷ 23 ∷ 24 ∷ 30 ∷ 31 ∷ 32 ∷ 33 ∷ 34 ∷ 36 ∷ 37 ∷ 38 ∷ []) (faults ++ (35 ∷ []))

-- what some numbers all are, one among them is
unfoldable Each : (ℕ → Type 0) → List ℕ → Type 0
Each P [] = Unit {0}
Each P (x ∷ xs) = P x × Each P xs

each_member : (P : ℕ → Type 0) (xs : List ℕ) → Each P xs → (number : ℕ) → any_of (eqb number) xs ≡ true → P number
unfolding Each any_of
each_member P [] all number e = absurd (differ (sym e))
each_member P (x ∷ xs) all number e = go (eqb number x) refl e (each_member P xs all.1 number)
  where
    go : (b : Bool) → eqb number x ≡ b → cond b true (any_of (eqb number) xs) ≡ true → (any_of (eqb number) xs ≡ true → P number) → P number
    go true q r rest = rw (eqb-true number x q) all.0
    go false q r rest = rest r

-- a refusal of the table is known by its number and its value
named : (number : ℕ) (values : List ℕ) → refuses all_refusals (refused number values) ≡ true → refusal_says (refusal_of number (get_or values 0 0)) ≡ refused number values
unfolding refuses is_answer shape faults refusal_says refusal_of fault_of refusal_number number_of refusal_value values_in Each
named number [] e =
    each_member (λ n. refusal_says (refusal_of n 0) ≡ refused n []) all_refusals.plain
    (refl, (refl, (refl, (refl, (refl, (refl, (refl, (refl, (refl, (refl, (refl, (refl, (refl, tt))))))))))))) number e
named number (value ∷ []) e =
    each_member (λ n. refusal_says (refusal_of n value) ≡ refused n (value ∷ [])) all_refusals.valued
    (refl, (refl, (refl, (refl, (refl, (refl, (refl, (refl, (refl, (refl, (refl, tt))))))))))) number e
named number (value ∷ other ∷ more) e = absurd (differ (sym e))

-- what was answered, by how a value is read off C's answer
unfoldable result_by : {A : Type 0} → (Answer → A) → Answer → Result A Refusal
result_by read a = if not (eqb a.refused 0) then Err (refusal_of a.refused a.detail) else Ok (read a)

abbrev counted_by : Answer → Counted
counted_by = result_by (λ a. a.value)

abbrev ranged_by : Answer → Ranged
ranged_by = result_by (λ a. granted a.value a.first a.last)

module _ (s : Shape) (p : proper s ≡ true) (w : within s all_refusals ≡ true) where
  nonzero : (number : ℕ) (values : List ℕ) → is_answer s (refused number values) ≡ true → not (eqb number 0) ≡ true
  unfolding is_answer
  nonzero number [] e = and_left (not (eqb number 0)) (not (any_of (eqb number) s.valued)) (plain_number s p number e)
  nonzero number (value ∷ []) e = valued_number s p number e
  nonzero number (value ∷ other ∷ more) e = absurd (differ (sym e))

  module _ {A : Type 0} (values : A → List ℕ) (read : Answer → A) (reads : (given : List ℕ) → eqb (length given) s.values ≡ true → values (read (answer_of (done given))) ≡ given) where
    result_back : (said : Said) → is_answer s said ≡ true → {a : Answer} → a ≡ answer_of said → says_by values (result_by read a) ≡ said
    unfolding result_by answer_of answer_for says_by is_answer
    result_back (done given) e q = rw q (ap done (reads given e))
    result_back (refused number given) e q = rw (q, nonzero number given e) (named number given (wider s all_refusals w (refused number given) e))

-- no value, one, and a number with a range
reads_none : (given : List ℕ) → eqb (length given) 0 ≡ true → [] ≡ given
reads_none [] e = refl
reads_none (v ∷ more) e = absurd (omega (arith, eqb-true (length (v ∷ more)) 0 e))

reads_one : (given : List ℕ) → eqb (length given) 1 ≡ true → (answer_of (done given)).value ∷ [] ≡ given
unfolding answer_of answer_for
reads_one [] e = absurd (differ (sym e))
reads_one (v ∷ []) e = refl
reads_one (v ∷ w ∷ more) e = absurd (omega (arith, eqb-true (length (v ∷ w ∷ more)) 1 e))

reads_three : (given : List ℕ) → eqb (length given) 3 ≡ true → (answer_of (done given)).value ∷ (answer_of (done given)).first ∷ (answer_of (done given)).last ∷ [] ≡ given
unfolding answer_of answer_for
reads_three [] e = absurd (differ (sym e))
reads_three (v ∷ []) e = absurd (differ (sym e))
reads_three (v ∷ w ∷ []) e = absurd (differ (sym e))
reads_three (v ∷ w ∷ x ∷ []) e = refl
reads_three (v ∷ w ∷ x ∷ y ∷ more) e = absurd (omega (arith, eqb-true (length (v ∷ w ∷ x ∷ y ∷ more)) 3 e))

not_refused : (said : Said) → (answer_of said).refused ≢ 0 → is_done said ≡ false
unfolding answer_of answer_for is_done
not_refused (done values) n = absurd (n refl)
not_refused (refused number values) n = refl

-- of a call that is lent a buffer to change
in_c : (s : Shape) → proper s ≡ true → {a : Answer} (said : Said) {before after : List ℕ} → a ≡ answer_of said → Ends s said before after → EndsInC s a before after
unfolding answer_of
in_c s p said told d = record {
  answered = answered s p said 0 0 told d.answers;
  unchanged = λ n. d.unchanged (not_refused said (λ q. n (ap (λ (x : Answer). x.refused) told ∙ q)));
}

pub demand1_in_c : Demand1InC
unfolding answer_of proper shape faults any_of all_of of_check of_rights of_audit of_put of_drop of_fill of_ask of_grant of_grant_widest of_return of_drop_host of_needs is_answer decided_for
demand1_in_c = record {
  check = λ list a c. answered of_check refl (check_says list) 0 0 c.answer (check_answers list);
  rights = λ list groups caller file a g. answered of_rights refl _ _ _ g.answer (decided_answers list groups (caller_of caller) (file_of file) (guard_of file));
  audit = λ bytes a d. answered of_audit refl (truth_says (sound bytes)) 0 0 d.answer (audit_answers (sound bytes));
  needs = λ types dir a n. answered of_needs refl (done (needed (not (eqb dir 0)) types ∷ [])) 0 0 n.answer refl;
  put = λ list out after entry a q. in_c of_put refl _ q.answer (ends of_put _ _ out after refl (put_answers list (entry_of entry) out) q.out_after);
  drop_entry = λ list out after entry a q. in_c of_drop refl _ q.answer (ends of_drop _ _ out after refl (drop_entry_answers list (entry_of entry) out) q.out_after);
  fill = λ bytes after a f. in_c of_fill refl _ f.answer (ends of_fill _ _ bytes after refl (fill_answers bytes) f.table_after);
  ask = λ bytes out after claim access a q. in_c of_ask refl _ q.answer (ends of_ask _ _ out after refl (ask_answers (claim_of claim) access out bytes) q.out_after);
  grant = λ bytes after claim access a g. in_c of_grant refl _ g.answer (table_ends of_grant _ _ bytes after refl (grant_answers (claim_of claim) access bytes) g.table_after);
  grant_widest = λ bytes after claim access a g. in_c of_grant_widest refl _ g.answer (widest_ends of_grant_widest _ bytes after (claim_of claim) (grant_widest_answers (claim_of claim) access bytes) g.outcome);
  give_back = λ bytes after host number types a g. in_c of_return refl _ g.answer (table_ends of_return _ _ bytes after refl (return_answers host number types bytes) g.table_after);
  drop_host = λ bytes after host a d. in_c of_drop_host refl _ d.answer (table_ends of_drop_host _ _ bytes after refl (drop_answers host bytes) d.table_after);
}

-- each export's statement is its call's, with what the answer leads back to
module _ {bytes after : List ℕ} {a : Answer} where
  fills_back : Fills bytes a after → FillsTable bytes (done_by a) after
  unfolding done_by result_by proper shape any_of all_of of_fill within faults
  fills_back f = record { answer = result_back of_fill refl refl (λ none. []) (λ a. tt) reads_none (fill_says bytes) (fill_answers bytes) f.answer; table_after = f.table_after }

  returns_back : {host number types : ℕ} → Returns bytes host number types a after → ReturnsTypes bytes host number types (done_by a) after
  unfolding done_by result_by proper shape any_of all_of of_return within faults
  returns_back {host} {number} {types} r =
      record { answer = result_back of_return refl refl (λ none. []) (λ a. tt) reads_none (says_of (return_says host number types) bytes) (return_answers host number types bytes) r.answer; table_after = r.table_after }

  drops_back : {host : ℕ} → DropsHost bytes host a after → DropsTable bytes host (counted_by a) after
  unfolding proper shape any_of all_of of_drop_host within faults
  drops_back {host} d =
      record { answer = result_back of_drop_host refl refl (λ n. n ∷ []) (λ a. a.value) reads_one (says_of (drop_says host) bytes) (drop_answers host bytes) d.answer; table_after = d.table_after }

  module _ {claim : Claim} {access : Access} where
    counted_back : Grants bytes claim access a after → number_says (counted_by a) ≡ says_of (grant_says (claim_of claim) access) bytes
    unfolding proper shape faults any_of all_of of_grant within
    counted_back g = result_back of_grant refl refl (λ n. n ∷ []) (λ a. a.value) reads_one (says_of (grant_says (claim_of claim) access) bytes) (grant_answers (claim_of claim) access bytes) g.answer

    grants_back : Grants bytes claim access a after → GrantsToken bytes (claim_of claim) access (counted_by a) after
    grants_back g = record { answer = counted_back g; table_after = g.table_after }

    grants_widest_back : GrantsWidest bytes claim access a after → GrantsWidestToken bytes (claim_of claim) access (ranged_by a) after
    unfolding proper shape faults any_of all_of of_grant of_grant_widest within
    grants_widest_back g =
        let e = result_back of_grant_widest refl refl (λ (r : Granted). r.number ∷ r.range.first ∷ r.range.last ∷ []) (λ a. granted a.value a.first a.last) reads_three g.said
        (rw g.outcome.answer (grant_widest_answers (claim_of claim) access bytes g.outcome.first g.outcome.last)) g.answer in
        record { outcome = rw e g.outcome }

    asks_back : {out : List ℕ} → Asks bytes claim access out a after → AsksTable bytes (claim_of claim) access out (counted_by a) after
    unfolding proper shape faults any_of all_of of_ask within
    asks_back {out} q =
        record { answer = result_back of_ask refl refl (λ n. n ∷ []) (λ a. a.value) reads_one (says_of (ask_says (claim_of claim) access out) bytes) (ask_answers (claim_of claim) access out bytes) q.answer; out_after = q.out_after }

-- what a claim's types hold fits the table's widths
fits : (claim : Claim) → Typed claim → Fits (claim_of claim)
unfolding claim_of
fits claim t = record {
  types = t.types;
  host = t.host;
  hi = number_fits claim.file t.bytes 0 8 (omega (arith, t.twelve));
  lo = number_fits claim.file t.bytes 8 4 (omega (arith, t.twelve));
  first = t.first;
  last = t.last;
}

leaves_back : (e : Export) (before after : List ℕ) → ExportLeaves e before after → Leaves (call_of e) before after
unfolding ExportLeaves call_of Leaves
leaves_back fill before after l = (done_by l.0, fills_back l.1)
leaves_back (ask claim access out) before after l = (l.0, counted_by l.1, l.2, asks_back l.3)
leaves_back (grant claim access) before after l = (fits claim l.0, counted_by l.1, grants_back l.2)
leaves_back (grant_widest claim access) before after l = (fits claim l.0, ranged_by l.1, grants_widest_back l.2)
leaves_back (give_back given) before after l = (done_by l.0, returns_back l.1)
leaves_back (drop_host host) before after l = (counted_by l.0, drops_back l.1)
leaves_back audit before after l = (l.0, sound before, record { answer = refl })

-- calls of one kind one after the other are calls of another, where each of them is
runs_as : {A B : Type 0} (f : A → B) (leaves : A → List ℕ → List ℕ → Type 0) (leaves' : B → List ℕ → List ℕ → Type 0)
    → ((a : A) (before after : List ℕ) → leaves a before after → leaves' (f a) before after)
    → (all : List A) (before after : List ℕ) → RunsBy leaves all before after → RunsBy leaves' (map f all) before after
unfolding RunsBy
runs_as f leaves leaves' each [] before after r = r
runs_as f leaves leaves' each (a ∷ all) before after r = (r.0, each a before r.0 r.1, runs_as f leaves leaves' each all r.0 after r.2)

runs_back : (es : List Export) (before after : List ℕ) → ExportRuns es before after → Runs (map call_of es) before after
runs_back = runs_as call_of ExportLeaves Leaves leaves_back

turns_back : (turns : List TurnInC) (before after : List ℕ) → ReturnedInC turns before after → Returned (map turn_of turns) before after
turns_back = runs_as turn_of TurnLeavesInC TurnLeaves (λ turn before after r. returns_back r)

-- an answer of 0 leads back to what is done
zero_back : {A : Type 0} (read : Answer → A) (a : Answer) → a.refused ≡ 0 → result_by read a ≡ Ok (read a)
unfolding result_by
zero_back read a e = rw e refl

done_back : (a : Answer) → a.refused ≡ 0 → done_by a ≡ Ok tt
unfolding done_by
done_back a e = rw e refl

pub exports_are_calls : ExportsAreCalls
exports_are_calls bytes r = record {
  lent = r.lent;
  fresh = r.fresh;
  fill = rw (← done_back r.answer r.done) (fills_back r.fill);
  calls = map call_of r.exports;
  runs = runs_back r.exports r.fresh bytes r.runs;
}

again_back : (bytes : List ℕ) (claim : Claim) (turns : List TurnInC) (present : List ℕ) (a : Answer) → AgainInC bytes claim turns present a
    → Again bytes (claim_of claim) (map turn_of turns) present (said_by of_grant a)
unfolding claim_of answer_of proper shape faults any_of all_of of_grant
again_back bytes claim turns present a g = record {
  returned = turns_back turns bytes present g.returned;
  access = g.access;
  permitted = g.permitted;
  reply = counted_by a;
  after = g.after;
  grant = grants_back g.grant;
  says = back of_grant refl (says_of (grant_says (claim_of claim) g.access) present) 0 0 g.grant.answer (grant_answers (claim_of claim) g.access present) ∙ sym (counted_back g.grant);
}

gives_back : (before : List ℕ) (number : ℕ) (after : List ℕ) → GivesInC before number after → Gives before number after
unfolding of_grant of_grant_widest shape
gives_back before number after g = go g.grant
  where
    go : Grants before g.claim g.access g.answer after ⊎ GrantsWidest before g.claim g.access g.answer after → Gives before number after
    go (inl p) = judged (claim_of g.claim) g.access (fits g.claim g.typed) (rw (← g.number_is, ← zero_back (λ a. a.value) g.answer g.done) (grants_back p))
    go (inr p) =
        widest (claim_of g.claim) g.access g.answer.first g.answer.last (fits g.claim g.typed)
        (rw (← g.number_is, ← zero_back (λ a. granted a.value a.first a.last) g.answer g.done) (grants_widest_back p))

-- an audit that answers 1 said yes
yes_back : (bytes : List ℕ) (a : Answer) → Audits bytes a → a.value ≡ 1 → sound bytes ≡ true
unfolding answer_of answer_for truth_says
yes_back bytes a q e = go (sound bytes) (sym (ap (λ (x : Answer). x.value) q.answer) ∙ e)
  where
    go : (b : Bool) → ◌≡◌ {A = ℕ} (if b then 1 else 0) 1 → b ≡ true
    go true z = refl
    go false z = absurd (omega (arith, z))

pub resumed_are_calls : ResumedAreCalls
resumed_are_calls bytes r = record {
  kept = r.kept;
  lent = r.lent;
  audit = record { answer = sym (yes_back r.kept r.answer r.audit r.yes) };
  calls = map call_of r.exports;
  runs = runs_back r.exports r.kept bytes r.runs;
}

-- what holds wherever calls lead holds wherever exports do
module _ (there reached : List ℕ → Type 0) (are : (bytes : List ℕ) → there bytes → reached bytes) where
  none_conflict_in_c : Demand2Of reached → Demand2InCOf there
  unfolding answer_of answer_for truth_says
  none_conflict_in_c demand bytes r =
      let d = demand bytes (are bytes r) in
      let yes_says : sound bytes ≡ true = d.audit_yes (sound bytes) (record { answer = refl }) in
      (d, λ a q. (ap (λ (x : Answer). x.refused) q.answer, ap (λ (x : Answer). x.value) q.answer ∙ rw yes_says refl))

  least_serves_in_c : Demand3Of reached → Demand3InCOf there
  unfolding of_ask shape
  least_serves_in_c demand bytes r claim access out a after q e turns present again g =
      demand bytes (are bytes r) (claim_of claim) access out a.value after (rw (← zero_back (λ a. a.value) a e) (asks_back q)) (map turn_of turns) present (said_by of_grant again)
      (again_back bytes claim turns present again g)

  numbers_rise_in_c : NumbersOnceOf reached → NumbersOnceInCOf there
  numbers_rise_in_c demand bytes r number after g exports f later runs other last h =
      demand bytes (are bytes r) number after (gives_back bytes number after g) (map call_of exports) f later (runs_back exports after later runs) other last
      (gives_back later other last h)

pub demand2_in_c : Demand2InC
demand2_in_c = none_conflict_in_c ReachedInC Reached exports_are_calls demand2

pub demand3_in_c : Demand3InC
demand3_in_c = least_serves_in_c ReachedInC Reached exports_are_calls demand3

pub numbers_once_in_c : NumbersOnceInC
numbers_once_in_c = numbers_rise_in_c ReachedInC Reached exports_are_calls numbers_once

pub resuming_in_c : ResumingInC
resuming_in_c = record {
  demand2 = none_conflict_in_c ResumedInC Resumed resumed_are_calls resuming.demand2;
  demand3 = least_serves_in_c ResumedInC Resumed resumed_are_calls resuming.demand3;
  numbers_once = numbers_rise_in_c ResumedInC Resumed resumed_are_calls resuming.numbers_once;
}

-- what a call answered is what its answer says
module _ {A : Type 0} (values : A → List ℕ) (read : Answer → A) where
  by_result : {a : Answer} {said : Said} → a ≡ answer_of said → says_by values (result_by read a) ≡ said → (r : Result A Refusal) → result_by read a ≡ r → a ≡ answer_of (says_by values r)
  by_result told e r q = told ∙ ap answer_of (sym e ∙ ap (says_by values) q)

pub ask_is_done_in_c : AskIsDoneInC
unfolding claim_of answer_for answer_of says_by
ask_is_done_in_c bytes formed claim shaped access permitted out room a after q =
    let b = asks_back q in
    let w = ask_is_done bytes formed (claim_of claim) shaped access permitted out room (counted_by a) after b in
    ap (λ (x : Answer). x.refused) (by_result (λ n. n ∷ []) (λ a. a.value) q.answer b.answer (Ok w.0) w.1)

pub widening_in_c : WideningInC
unfolding claim_of answer_of answer_for says_by refusal_says refusal_number refusal_value values_in
widening_in_c = record {
  as_grant = λ bytes after claim access a g e b later h.
      let wide : GrantsWidestToken bytes (claim_of claim) access (Ok (granted a.value a.first a.last)) after = rw (← zero_back (λ a. granted a.value a.first a.last) a e) (grants_widest_back g) in
      let same = grant_determined bytes (with_range (claim_of claim) a.first a.last) access (counted_by b) (Ok a.value) later after (grants_back h)
      (widening.as_grant bytes after (claim_of claim) access a.value a.first a.last wide) in
      let told = by_result (λ n. n ∷ []) (λ a. a.value) h.answer (counted_back h) (Ok a.value) same.0 in
      (ap (λ (x : Answer). x.refused) told, ap (λ (x : Answer). x.value) told, same.1);
  no_wider = λ bytes after claim access a g e f l w b later h.
      let wide : GrantsWidestToken bytes (claim_of claim) access (Ok (granted a.value a.first a.last)) after = rw (← zero_back (λ a. granted a.value a.first a.last) a e) (grants_widest_back g) in
      let no = widening.no_wider bytes after (claim_of claim) access a.value a.first a.last wide f l w (counted_by b) later (grants_back h) in
      (ap (λ (x : Answer). x.refused) (by_result (λ n. n ∷ []) (λ a. a.value) h.answer (counted_back h) (Err Conflict) no.0), no.1);
}
