-- The customer's demands hold of every table that calls reach. Assumes nothing.
use Rattle.std.specs.Prelude.{if◌then◌else◌, Result, Ok, Err, IfErr}
use mathlib.Core.Path.{◌≡◌, refl, sym, ◌∙◌, ap}
use mathlib.Core.Bool.{Bool, true, false}
use mathlib.Core.List.{List, [], ◌∷◌, ◌++◌}
use mathlib.Core.Logic.{◌↔◌}
use Prim.Native.Nat.{ℕ, ◌≤◌, ◌<◌}
use native.Mathlib.Decide.{ℕ_discrete}
use native.Mathlib.Omega.{arith}
use borrow.Author.Tests.{le-ltb}
use lib.Dec.{ltb}
use lib.ListN.{length, drop}
use Rattle.words.specs.Said.{Said, done, refused, is_done, and_then, left}
use Rattle.words.proofs.Tests.{those_few}
use Rattle.words.proofs.Left.{left_kept, not_done}
use Rattle.claims.specs.Claim.{malformed}
use Rattle.claims.specs.Rule.{Conflicting}
use Rattle.claims.specs.declared.claim.Claim.{Claim}
use Rattle.claims.proofs.Sets.{nonempty}
use Rattle.claims.proofs.Sentence.{in_conflict}
use Rattle.table.specs.Table.{Table, limit, is_in_the_way}
use Rattle.table.specs.Layout.{table_of, bytes_of}
use Rattle.words.specs.Test.{any_of}
use Rattle.words.specs.Refusal.{refusal_number, refusal_value, values_in, refusal_says, says_by, number_says}
use Rattle.words.specs.declared.refusal.Refusal.{Refusal}
use Rattle.words.specs.declared.refusal.Refusal.TheVariants.{NotWellFormed}
use Rattle.entry.specs.Plan.{plan_values, plan_at}
use Rattle.table.specs.Call.{says_of, left_of}
use Rattle.table.specs.declared.slot.Slot.TheVariants.{Held}
use Rattle.table.proofs.Calls.{says_well}
use Rattle.words.proofs.Refusals.{same_number}
use Rattle.table.proofs.Means.{Ordered, table_bytes, bytes_formed, order_at, below_next}
use Rattle.tokens.specs.Grant.{request_says, serve_says, room_says}
use Rattle.tokens.specs.Widest.{with_more, Widened}
use Rattle.tokens.specs.Ask.{in_the_way, list_for, list_says}
use Rattle.tokens.proofs.Listed.{list_length}
use Rattle.returns.specs.Return.{return_says, returned}
use Rattle.returns.proofs.Kept.{return_order}
use Rattle.audit.specs.Audit.{sound}
use Rattle.audit.proofs.Exactly.{tokens_apart, apart_pairs}
use Rattle.access.specs.Access.{Access, access_says}
use Rattle.desk.specs.Order.{judged_says}
use Rattle.desk.specs.Grant.{grant_says}
use Rattle.desk.specs.Ask.{ask_says, Asks}
use Rattle.exchange.specs.Answer.{truth_says}
use Rattle.histories.specs.Shape.{Shape, shape, is_answer, of_put, of_drop, of_fill, of_ask, of_ask_unjudged, of_grant, of_grant_unjudged, of_grant_widest, of_grant_widest_unjudged, of_return, of_drop_host, of_survey, of_survey_wide, of_audit}
use Rattle.histories.specs.History.{RunsBy, Reached, Resumed}
use Rattle.histories.specs.Callback.{slot_at, Item, entries_in, Listed, Turn, givens, Returned, GivenBack, Split}
use Rattle.histories.specs.Demands.{Ends, NoTwoConflict, Again, Served, AllDone, StillHeld, LeastThatServes, Demand1, Demand2Of, Demand2, Demand3Of, Demand3, Resuming, AskIsDone}
use Rattle.histories.proofs.Answers.{same_value}
use Rattle.histories.proofs.Shapes.{check_answers, read_answers, step_answers, evaluation_answers, decided_answers, access_answers, plan_put_answers, plan_drop_answers, put_answers, drop_entry_answers, fill_answers, ask_answers, ask_unjudged_answers, grant_answers, grant_unjudged_answers, grant_widest_answers, grant_widest_unjudged_answers, return_answers, drop_answers}
use Rattle.histories.proofs.Soundness.{Sound}
use Rattle.histories.proofs.Spelling.{says_there, left_there}
use Rattle.histories.proofs.Giving.{says, give, give_sound}
use Rattle.histories.proofs.Turns.{give_all, Answered, all_sound, all_limit, same_claim}
use Rattle.histories.proofs.Entries.{entries, read_list}
use Rattle.histories.proofs.Serving.{exactly, otherwise, once_returned, least}
use Rattle.histories.proofs.Planning.{none_refused, all_given, whole_split}
use Rattle.histories.proofs.Singles.{singly_split}
use Rattle.histories.proofs.Reaching.{Stands, reached_stands, resumed_stands, numbers_rise}

-- a call that is lent a buffer ends as it says
pub ends : {spoken : Said} (s : Shape) (said : Said) (new old after : List ℕ) → spoken ≡ said → is_answer s said ≡ true → after ≡ left said new old → Ends s spoken old after
ends s said new old after p a e = record { answers = rw p a; unchanged = λ f. e ∙ left_kept said new old (rw (← p) f) }

pub table_ends : {spoken : Said} (s : Shape) (says : Table → Said) (changed : Table → Table) (bytes after : List ℕ) → spoken ≡ says_of says bytes
    → is_answer s (says_of says bytes) ≡ true → after ≡ left_of says changed bytes → Ends s spoken bytes after
unfolding left_of
table_ends s says changed bytes after p a e = ends s (says_of says bytes) (bytes_of (changed (table_of bytes))) bytes after p a e

-- a widest grant ends as its grant does
pub widest_ends : {spoken : Said} (s : Shape) (says : Table → Said) (bytes after : List ℕ) (claim : Claim) → ((first last : ℕ) → is_answer s (with_more (first ∷ last ∷ []) (says_of says bytes)) ≡ true)
    → Widened says bytes claim spoken after → Ends s spoken bytes after
unfolding left_of with_more is_done
widest_ends {spoken} s says bytes after claim a w = record {
  answers = rw w.answer (a w.first w.last);
  unchanged = λ f. w.table_after ∙ left_kept (says_of says bytes) _ bytes (as_refused (says_of says bytes) (rw (← w.answer) f));
}
  where
    as_refused : (said : Said) → is_done (with_more (w.first ∷ w.last ∷ []) said) ≡ false → is_done said ≡ false
    as_refused (done values) e = e
    as_refused (refused number values) e = refl

-- of a call that is answered in the shape, or refused for the table's form alone
formed_answers : {A : Type 0} (X : Type 0) (s : Shape) (values : A → List ℕ) → ((a : A) → is_answer s (done (values a)) ≡ true) → is_answer s (refused 30 []) ≡ true
    → (r : Result A Refusal) → IfErr r (λ refusal. X × (refusal ≡ NotWellFormed)) → is_answer s (says_by values r) ≡ true
unfolding says_by refusal_says refusal_number refusal_value values_in
formed_answers X s values answers ill (Ok a) e = answers a
formed_answers X s values answers ill (Err refusal) e = rw e.1 ill

pub audit_answers : (truth : Bool) → is_answer of_audit (truth_says truth) ≡ true
unfolding is_answer truth_says of_audit shape
audit_answers truth = refl

pub demand1 : Demand1
unfolding says_by plan_values plan_at is_answer of_survey of_survey_wide shape any_of
demand1 = record {
  check = λ list r c. rw c.answer (check_answers list);
  read_record = λ tail r p. rw p.answer (read_answers tail);
  step = λ walk list r p. rw p.answer (step_answers walk list);
  evaluate = λ list groups caller file r e. rw e.answer (evaluation_answers list groups caller file);
  decide = λ list groups caller file guard r f. rw f.answer (decided_answers list groups caller file guard);
  rights = λ list groups caller file guard r d. rw d.answer (decided_answers list.now groups caller file guard);
  judge = λ access types r j. rw j.answer (access_answers access types);
  plan_put = λ list entry r p. rw p.answer (plan_put_answers list entry _ _ _ _);
  plan_drop = λ list entry r p. rw p.answer (plan_drop_answers list entry _ _ _ _);
  survey = λ bytes claim r s. formed_answers _ of_survey _ (λ seen. refl) refl r s.ill;
  survey_wide = λ bytes claim r s. formed_answers _ of_survey_wide _ (λ told. refl) refl r s.ill;
  audit = λ bytes r a. audit_answers r;
  put = λ list out after entry r p. ends of_put _ _ out after p.answer (put_answers list entry out) p.out_after;
  drop_entry = λ list out after entry r p. ends of_drop _ _ out after p.answer (drop_entry_answers list entry out) p.out_after;
  fill = λ bytes after r f. ends of_fill _ _ bytes after f.answer (fill_answers bytes) f.table_after;
  ask = λ bytes out after claim access r a. ends of_ask _ _ out after a.answer (ask_answers claim access out bytes) a.out_after;
  ask_unjudged = λ bytes out after claim r a. ends of_ask_unjudged _ _ out after a.answer (ask_unjudged_answers claim out bytes) a.out_after;
  grant = λ bytes after claim access r g. table_ends of_grant _ _ bytes after g.answer (grant_answers claim access bytes) g.table_after;
  grant_unjudged = λ bytes after claim r g. table_ends of_grant_unjudged _ _ bytes after g.answer (grant_unjudged_answers claim bytes) g.table_after;
  grant_widest = λ bytes after claim access r g. widest_ends of_grant_widest _ bytes after claim (grant_widest_answers claim access bytes) g.outcome;
  grant_widest_unjudged = λ bytes after claim r g. widest_ends of_grant_widest_unjudged _ bytes after claim (grant_widest_unjudged_answers claim bytes) g.outcome;
  give_back = λ bytes after host number types r g. table_ends of_return _ _ bytes after g.answer (return_answers host number types bytes) g.table_after;
  drop_host = λ bytes after host r d. table_ends of_drop_host _ _ bytes after d.answer (drop_answers host bytes) d.table_after;
}

-- of the bytes of a sound table
module _ (t : Table) (s : Sound t) where
  two_apart : (i j number other : ℕ) (a b : Claim) → slot_at t i ≡ Held number a → slot_at t j ≡ Held other b → (x y : ℕ) → Conflicting a b x y → ⊥
  two_apart i j number other a b p q x y c = go (ℕ_discrete i j)
    where
      go : Dec (i ≡ j) → ⊥
      go (yes e) = let w : slot_at t j ≡ Held number a = rw e at p in c.hosts_differ (ap (λ (z : Claim). z.host) (same_claim (sym w ∙ q)))
      go (no d) = nonempty _ x (in_conflict a b x y c) (tokens_apart number other a b (rw (p, q) at (s.all.at i j d))).1

  below : (i number : ℕ) (a : Claim) → slot_at t i ≡ Held number a → number < t.next
  unfolding Ordered
  below i number a p =
      let o : Ordered (limit t) t.next (Held number a) = rw p at (order_at t s.order i) in below_next (limit t) t.next number a o.0

  yes_says : sound (bytes_of t) ≡ true
  unfolding sound
  yes_says =
      rw (bytes_formed t s.order, table_bytes t s.order)
      (apart_pairs t.slots (λ i j h. s.all.at i j (λ e. omega arith)))

  of_table : NoTwoConflict (bytes_of t)
  of_table = record {
    is_well_formed = bytes_formed t s.order;
    nothing_conflicts = rw (table_bytes t s.order) two_apart;
    numbers_differ = rw (table_bytes t s.order) (λ i j number other a b p q d. (tokens_apart number other a b (rw (p, q) at (s.all.at i j d))).0);
    below_next = rw (table_bytes t s.order) below;
    audit_yes = λ r a. a.answer ∙ yes_says;
  }

-- wherever the bytes stand
none_conflict : (reached : List ℕ → Type 0) → ((bytes : List ℕ) → reached bytes → Stands bytes) → Demand2Of reached
none_conflict reached stand bytes r = let s = stand bytes r in rw s.spelled (of_table s.table s.sound)

pub demand2 : Demand2
demand2 = none_conflict Reached reached_stands

-- the bytes after returns, and the answers, are those of the table
run_returns : (turns : List Turn) (t : Table) → Sound t → (present : List ℕ) → Returned turns (bytes_of t) present → (present ≡ bytes_of (give_all turns t)) × Answered turns t
unfolding RunsBy give_all Answered give
run_returns [] t s present r = (r, tt)
run_returns (turn ∷ turns) t s present r =
    let g = turn.given in
    let o = s.order in
    let by = left_there (return_says g.host g.number g.types) t o (returned g.host g.number g.types) (λ values e. (return_order t o g.host g.number g.types).1) in
    let between : r.0 ≡ bytes_of (give g t) = r.1.table_after ∙ by in
    let later = run_returns turns (give g t) (give_sound g t s) present (rw between at r.2) in
    (later.0, (r.1.answer ∙ says_there (return_says g.host g.number g.types) t o, later.1))

-- what an ask that is done tells: the request is well formed, and how many tokens are in its way
module _ (claim : Claim) (out : List ℕ) (t : Table) (verdict : Said) (n : ℕ) where
  asked : done (n ∷ []) ≡ judged_says claim verdict (list_says claim out) t → (malformed claim (limit t) ≡ false) × (n ≡ length (in_the_way claim t))
  unfolding judged_says and_then request_says list_says
  asked e = go (malformed claim (limit t)) refl verdict (ltb (length out) (length (list_for claim t))) e
    where
      go : (b : Bool) → malformed claim (limit t) ≡ b → (v : Said) (c : Bool)
          → done (n ∷ []) ≡ and_then (if b then refused 31 [] else done []) (and_then v (if c then refused 35 (length (in_the_way claim t) ∷ []) else done (length (in_the_way claim t) ∷ [])))
          → (malformed claim (limit t) ≡ false) × (n ≡ length (in_the_way claim t))
      go true p v c z = absurd (not_done 31 [] (n ∷ []) (sym z))
      go false p (refused number w) c z = absurd (not_done number w (n ∷ []) (sym z))
      go false p (done w) true z = absurd (not_done 35 (length (in_the_way claim t) ∷ []) (n ∷ []) (sym z))
      go false p (done w) false z = (p, same_value n (length (in_the_way claim t)) z)

-- a permitted, well-formed request is answered by room and conflicts alone
served_as : (claim : Claim) (access : Access) (t : Table) → malformed claim (limit t) ≡ false → access_says access claim.types ≡ done []
    → grant_says claim access t ≡ serve_says claim t
unfolding grant_says judged_says request_says and_then
served_as claim access t shaped permitted = rw (shaped, permitted) refl

module _ (t : Table) (s : Sound t) (claim : Claim) (shaped : malformed claim (limit t) ≡ false) where
  -- what the request made again comes to, on the table
  record Comes (turns : List Turn) (present : List ℕ) (said : Said) : Type 0 where
    pub answers : Answered turns t
    pub table : table_of present ≡ give_all turns t
    pub says : said ≡ serve_says claim (give_all turns t)

  comes : (turns : List Turn) (present : List ℕ) (said : Said) → Again (bytes_of t) claim turns present said → Comes turns present said
  comes turns present said a =
      let u = give_all turns t in
      let o = (all_sound turns t s).order in
      let r = run_returns turns t s present a.returned in
      let fine : malformed claim (limit u) ≡ false = rw (all_limit turns t) shaped in
      let spoken : number_says a.reply ≡ grant_says claim a.access u = rw r.0 at a.grant.answer ∙ says_there (grant_says claim a.access) u o in
      record {
        answers = r.1;
        table = ap table_of r.0 ∙ table_bytes u o;
        says = a.says ∙ spoken ∙ served_as claim a.access u fine a.permitted;
      }

  module _ (turns : List Turn) (present : List ℕ) (said : Said) (a : Again (bytes_of t) claim turns present said) where
    c : Comes turns present said
    c = comes turns present said a

    still_held : (said ≡ refused 32 []) ↔ StillHeld (entries claim t.slots) present
    still_held = (
      λ e. let w = (exactly claim t s turns).0 (sym c.says ∙ e) in record { item = w.0; listed = w.1; held = rw c.table w.2 },
      λ h. c.says ∙ (exactly claim t s turns).1 (h.item, h.listed, rw c.table at h.held),
    )

    served : serve_says claim (give_all turns t) ≡ room_says (give_all turns t) → Served present said
    served e = c.says ∙ e ∙ ap room_says (sym c.table)

    all_returned : ((x : Item) → Listed (entries claim t.slots) x → GivenBack turns x) → Served present said
    all_returned all = served (once_returned claim t s turns c.answers all)

    split_served : Split (entries claim t.slots) (givens turns) → AllDone turns present said
    split_served p = (none_refused claim t s turns p c.answers, all_returned (all_given claim t s turns p c.answers))

    of_request : LeastThatServes (entries claim t.slots) turns present said
    of_request = record {
      exactly = still_held;
      otherwise = λ n. served (otherwise claim (give_all turns t) (λ e. n (c.says ∙ e)));
      once_returned = all_returned;
      while_held = λ x l h. still_held.1 (record { item = x; listed = l; held = h });
      least = λ e. least claim t s turns c.answers (sym c.says ∙ e ∙ ap room_says c.table);
      in_any_order = λ es order are. split_served (rw are (whole_split claim t s es order));
      type_by_type = λ xs singly are. split_served (rw are (singly_split (entries claim t.slots) xs singly));
      split = split_served;
    }

few_in_the_way : (claim : Claim) (t : Table) → length (in_the_way claim t) ≤ length t.slots
unfolding in_the_way
few_in_the_way claim t = those_few (is_in_the_way claim) t.slots

-- the list is read off the bytes that an ask which was done wrote
module _ (t : Table) (s : Sound t) (bytes : List ℕ) (spelled : bytes ≡ bytes_of t) (claim : Claim) (access : Access) (out : List ℕ) where
  of_ask_lem : (count : ℕ) (after : List ℕ) → Asks bytes claim access out (Ok count) after
      → (turns : List Turn) (present : List ℕ) (said : Said) → Again bytes claim turns present said → LeastThatServes (entries_in count after) turns present said
  unfolding ask_says says_by left
  of_ask_lem count after a turns present said again =
      let o = s.order in
      let says : done (count ∷ []) ≡ ask_says claim access out t = rw spelled at a.answer ∙ says_there (ask_says claim access out) t o in
      let told = asked claim out t (access_says access claim.types) count says in
      let rest = drop (length (list_for claim t)) out in
      let written : after ≡ list_for claim t ++ rest = rw (spelled, says_there (ask_says claim access out) t o, ← says, table_bytes t o) at a.out_after in
      let read : entries_in count after ≡ entries claim t.slots = rw (written, told.1) (read_list claim rest t o) in
      rw read (of_request t s claim told.0 turns present said (rw spelled at again))

least_serves : (reached : List ℕ → Type 0) → ((bytes : List ℕ) → reached bytes → Stands bytes) → Demand3Of reached
least_serves reached stand bytes r claim access out = let p = stand bytes r in of_ask_lem p.table p.sound bytes p.spelled claim access out

pub demand3 : Demand3
demand3 = least_serves Reached reached_stands

pub resuming : Resuming
resuming = record {
  demand2 = none_conflict Resumed resumed_stands;
  demand3 = least_serves Resumed resumed_stands;
  numbers_once = numbers_rise Resumed resumed_stands;
}

pub ask_is_done : AskIsDone
unfolding ask_says judged_says request_says and_then list_says says_by
ask_is_done bytes formed claim shaped access permitted out room r after a =
    let t = table_of bytes in
    let few : length (list_for claim t) ≤ length out = omega (arith, list_length claim t, few_in_the_way claim t) in
    let says : ask_says claim access out t ≡ done (length (in_the_way claim t) ∷ []) = rw (shaped, permitted, le-ltb (length out) (length (list_for claim t)) few) refl in
    (length (in_the_way claim t), same_number r (Ok (length (in_the_way claim t))) (a.answer ∙ says_well (ask_says claim access out) bytes formed ∙ says) refl)
