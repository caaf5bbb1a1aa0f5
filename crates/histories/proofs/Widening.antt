-- The widest grant is the grant of the given range, and no wider one would have been granted. Assumes nothing.
use Rattle.std.specs.Prelude.{Err}
use mathlib.Core.Path.{◌≡◌, refl, sym, ◌∙◌, ap}
use mathlib.Core.Bool.{Bool, true, false}
use mathlib.Core.List.{List, [], ◌∷◌, Memᴰ}
use Prim.Native.Nat.{ℕ, ◌≤◌}
use native.Mathlib.Nat.{le_refl}
use native.Mathlib.Omega.{arith}
use borrow.Author.Tests.{eq-eqb, ne_eqb, le-ltb}
use lib.Dec.{ltb}
use lib.ListN.{get_or}
use Rattle.words.specs.Test.{any_of}
use Rattle.words.specs.Said.{Said, done, refused, is_done, and_then}
use Rattle.words.proofs.Tests.{or_left}
use Rattle.words.proofs.Left.{not_done}
use Rattle.claims.specs.Claim.{unfit, malformed, with_range}
use Rattle.claims.specs.Rule.{conflict}
use Rattle.claims.specs.declared.claim.Claim.{Claim}
use Rattle.claims.proofs.Ranges.{in_order}
use Rattle.table.specs.Table.{Table, limit, is_in_the_way}
use Rattle.table.specs.Layout.{table_of}
use Rattle.table.specs.Form.{well_formed}
use Rattle.words.specs.Refusal.{says_by, number_says, refusal_says, refusal_number, refusal_value, values_in}
use Rattle.table.specs.Call.{says_of, left_of}
use Rattle.words.specs.declared.refusal.Refusal.TheVariants.{Conflict}
use Rattle.words.proofs.Refusals.{same_number}
use Rattle.table.specs.declared.slot.Slot.{Slot}
use Rattle.table.specs.declared.slot.Slot.TheVariants.{Free, Held}
use Rattle.table.proofs.Calls.{says_ill, says_well, left_refused}
use Rattle.widest.specs.Widest.{Serves, Widest}
use Rattle.tokens.specs.Grant.{last_number, room_says, request_says, serve_says, granted, grant_says as plainSays}
use Rattle.tokens.specs.Widest.{with_more, Widened}
use Rattle.tokens.proofs.Kept.{Passed, passed}
use Rattle.tokens.proofs.Widening.{with_nobody}
use Rattle.access.specs.Access.{access_says}
use Rattle.desk.specs.Order.{judged_says}
use Rattle.desk.specs.Grant.{grant_says}
use Rattle.histories.specs.History.{Counted}
use Rattle.histories.specs.Widening.{Wider, Widening}
use Rattle.histories.proofs.Answers.{same_values_lem}

-- no slot is in the way where no token conflicts
module _ (claim : Claim) where
  not_in_the_way : (slot : Slot) → ((number : ℕ) (held : Claim) → slot ≡ Held number held → conflict held claim ≡ 0) → is_in_the_way claim slot ≡ false
  unfolding is_in_the_way
  not_in_the_way Free none = refl
  not_in_the_way (Held number held) none = rw (eq-eqb (conflict held claim) 0 (none number held refl)) refl

  nobody : (slots : List Slot) → ((number : ℕ) (held : Claim) → Memᴰ (Held number held) slots → conflict held claim ≡ 0) → any_of (is_in_the_way claim) slots ≡ false
  unfolding any_of
  nobody [] none = refl
  nobody (s ∷ ss) none =
      rw (not_in_the_way s (λ number held e. none number held (Memᴰ.head (sym e)))) (nobody ss (λ number held m. none number held (Memᴰ.tail m)))

-- a grant that is done is done with access apart
pub without_verdict : (first verdict own : Said) (values : List ℕ) → and_then first (and_then verdict own) ≡ done values → and_then first own ≡ done values
unfolding and_then
without_verdict (done v) (done w) own values e = e
without_verdict (done v) (refused number w) own values e = absurd (not_done number w values e)
without_verdict (refused number v) verdict own values e = absurd (not_done number v values e)

-- and its verdict lets it pass
verdict_done : (first verdict own : Said) (values : List ℕ) → and_then first (and_then verdict own) ≡ done values → (next : Said) → and_then verdict next ≡ next
unfolding and_then
verdict_done (done v) (done w) own values e next = refl
verdict_done (done v) (refused number w) own values e next = absurd (not_done number w values e)
verdict_done (refused number v) verdict own values e next = absurd (not_done number v values e)

-- a claim that passed, over a range that holds its own
module _ (t : Table) (claim : Claim) (p : Passed claim t) where
  pub by_room : serve_says claim t ≡ done (t.next ∷ [])
  unfolding serve_says room_says
  by_room = rw (p.harmless, p.room, ne_eqb t.next last_number p.numbers_left) refl

  module _ (f l : ℕ) (lower : f ≤ claim.first) (higher : claim.last ≤ l) where
    request_passes : request_says (with_range claim f l) t ≡ done []
    unfolding request_says malformed
    request_passes =
        let kind = or_left (unfit claim.host claim.types (limit t)) (ltb claim.last claim.first) p.shaped in
        rw (kind, le-ltb l f (omega (arith, lower, higher, in_order claim (limit t) p.shaped))) refl

    serves_so : any_of (is_in_the_way (with_range claim f l)) t.slots ≡ false → serve_says (with_range claim f l) t ≡ done (t.next ∷ [])
    unfolding serve_says
    serves_so e = rw e (rw p.harmless at by_room)

    conflicts_so : any_of (is_in_the_way (with_range claim f l)) t.slots ≡ true → serve_says (with_range claim f l) t ≡ refused 32 []
    unfolding serve_says
    conflicts_so e = rw e refl

    pub served : Serves t claim f l → plainSays (with_range claim f l) t ≡ done (t.next ∷ [])
    unfolding plainSays and_then
    served s = rw request_passes (serves_so (nobody (with_range claim f l) t.slots s.with_nobody))

-- by a verdict of access, which goes by the claim's types alone; done where access is apart
abbrev pub grant_by : Said → Claim → Table → Said
grant_by verdict claim = judged_says claim verdict (serve_says claim)

module _ (verdict : Said) (claim : Claim) where
  -- what a done grant says of its table
  module _ (t : Table) (values : List ℕ) (e : grant_by verdict claim t ≡ done values) where
    pub judged_passed : Passed claim t
    unfolding judged_says plainSays
    judged_passed = passed claim t values (without_verdict (request_says claim t) verdict (serve_says claim t) values e)

    over_range : (f l : ℕ) → f ≤ claim.first → claim.last ≤ l → grant_by verdict (with_range claim f l) t ≡ serve_says (with_range claim f l) t
    unfolding judged_says and_then
    over_range f l lower higher =
        rw (request_passes t claim judged_passed f l lower higher) (verdict_done (request_says claim t) verdict (serve_says claim t) values e (serve_says (with_range claim f l) t))

    its_values : grant_by verdict claim t ≡ done (t.next ∷ [])
    its_values = over_range claim.first claim.last (le_refl claim.first) (le_refl claim.last) ∙ by_room t claim judged_passed

  module _ (bytes after : List ℕ) (number first last : ℕ) (w : Widened (grant_by verdict claim) bytes claim (done (number ∷ first ∷ last ∷ [])) after) where
    was_done : (values : List ℕ) × (says_of (grant_by verdict claim) bytes ≡ done values)
    unfolding with_more
    was_done = go (says_of (grant_by verdict claim) bytes) refl w.answer
      where
        go : (said : Said) → says_of (grant_by verdict claim) bytes ≡ said → done (number ∷ first ∷ last ∷ []) ≡ with_more (w.first ∷ w.last ∷ []) said
            → (values : List ℕ) × (says_of (grant_by verdict claim) bytes ≡ done values)
        go (done values) e z = (values, e)
        go (refused n values) e z = absurd (not_done n values (number ∷ first ∷ last ∷ []) (sym z))

    well : well_formed bytes ≡ true
    well = go (well_formed bytes) refl
      where
        go : (b : Bool) → well_formed bytes ≡ b → b ≡ true
        go true p = refl
        go false p = absurd (not_done 30 [] was_done.0 (sym (says_ill (grant_by verdict claim) bytes p) ∙ was_done.1))

    says_so : grant_by verdict claim (table_of bytes) ≡ done was_done.0
    says_so = sym (says_well (grant_by verdict claim) bytes well) ∙ was_done.1

    fine : Passed claim (table_of bytes)
    fine = judged_passed (table_of bytes) was_done.0 says_so

    spoken : says_of (grant_by verdict claim) bytes ≡ done ((table_of bytes).next ∷ [])
    spoken = says_well (grant_by verdict claim) bytes well ∙ its_values (table_of bytes) was_done.0 says_so

    given : number ∷ first ∷ last ∷ [] ≡ (table_of bytes).next ∷ w.first ∷ w.last ∷ []
    unfolding with_more
    given = same_values_lem (number ∷ first ∷ last ∷ []) ((table_of bytes).next ∷ w.first ∷ w.last ∷ []) (rw spoken at w.answer)

    number_is : number ≡ (table_of bytes).next
    number_is = ap (λ (v : List ℕ). get_or v 0 0) given

    first_is : first ≡ w.first
    first_is = ap (λ (v : List ℕ). get_or v 1 0) given

    last_is : last ≡ w.last
    last_is = ap (λ (v : List ℕ). get_or v 2 0) given

    pub it_is_widest : Widest (table_of bytes) claim first last
    unfolding is_done
    it_is_widest = rw (first_is, last_is) (w.widest (rw spoken refl))

    same_says : says_of (grant_by verdict (with_range claim first last)) bytes ≡ done ((table_of bytes).next ∷ [])
    same_says =
        let s = it_is_widest.serves in
        says_well (grant_by verdict (with_range claim first last)) bytes well
        ∙ over_range (table_of bytes) was_done.0 says_so first last s.holds.0 s.holds.1
        ∙ serves_so (table_of bytes) claim fine first last s.holds.0 s.holds.1 (nobody (with_range claim first last) (table_of bytes).slots s.with_nobody)

    as_grant_says : done (number ∷ []) ≡ says_of (grant_by verdict (with_range claim first last)) bytes
    as_grant_says = rw number_is (sym same_says)

    as_grant_left : after ≡ left_of (grant_by verdict (with_range claim first last)) (granted (with_range claim first last)) bytes
    unfolding left_of
    as_grant_left = w.table_after ∙ rw (spoken, same_says, first_is, last_is) refl

    wider_says : (f l : ℕ) → Wider claim first last f l → says_of (grant_by verdict (with_range claim f l)) bytes ≡ refused 32 []
    wider_says f l wide =
        says_well (grant_by verdict (with_range claim f l)) bytes well
        ∙ over_range (table_of bytes) was_done.0 says_so f l wide.holds.0 wide.holds.1
        ∙ conflicts_so (table_of bytes) claim fine f l wide.holds.0 wide.holds.1 (in_the_way_lem (any_of (is_in_the_way (with_range claim f l)) (table_of bytes).slots) refl)
      where
        in_the_way_lem : (b : Bool) → any_of (is_in_the_way (with_range claim f l)) (table_of bytes).slots ≡ b → b ≡ true
        in_the_way_lem true e = refl
        in_the_way_lem false e = absurd (wide.not_within (it_is_widest.largest f l (record {
          holds = wide.holds;
          ends = wide.ends;
          with_nobody = with_nobody (with_range claim f l) (table_of bytes).slots e;
        })))

    no_wider_so : (f l : ℕ) → Wider claim first last f l → (r : Counted) (later : List ℕ) → number_says r ≡ says_of (grant_by verdict (with_range claim f l)) bytes
        → later ≡ left_of (grant_by verdict (with_range claim f l)) (granted (with_range claim f l)) bytes → (r ≡ Err Conflict) × (later ≡ bytes)
    unfolding says_by refusal_says refusal_number refusal_value values_in
    no_wider_so f l wide r later p q =
        let e = wider_says f l wide in
        (same_number r (Err Conflict) (p ∙ e) refl, q ∙ left_refused (grant_by verdict (with_range claim f l)) bytes (granted (with_range claim f l)) e)

    -- access apart
    apart_says : says_of (plainSays claim) bytes ≡ done ((table_of bytes).next ∷ [])
    unfolding plainSays judged_says
    apart_says =
        says_well (plainSays claim) bytes well
        ∙ without_verdict (request_says claim (table_of bytes)) verdict (serve_says claim (table_of bytes)) ((table_of bytes).next ∷ []) (its_values (table_of bytes) was_done.0 says_so)

    apart_widened : Widened (plainSays claim) bytes claim (done (number ∷ first ∷ last ∷ [])) after
    unfolding with_more left_of
    apart_widened = record {
      first = first;
      last = last;
      widest = λ d. it_is_widest;
      answer = rw (apart_says, number_is) refl;
      table_after = w.table_after ∙ rw (spoken, apart_says, first_is, last_is) refl;
    }

pub widening : Widening
unfolding grant_says plainSays judged_says and_then says_by
widening = record {
  as_grant = λ bytes after claim access number first last g.
      let verdict = access_says access claim.types in
      record { answer = as_grant_says verdict claim bytes after number first last g.outcome; table_after = as_grant_left verdict claim bytes after number first last g.outcome };
  as_grant_unjudged = λ bytes after claim number first last g.
      record { answer = as_grant_says (done []) claim bytes after number first last g.outcome; table_after = as_grant_left (done []) claim bytes after number first last g.outcome };
  access_apart = λ bytes after claim access number first last g. record { outcome = apart_widened (access_says access claim.types) claim bytes after number first last g.outcome };
  no_wider = λ bytes after claim access number first last g f l w r later h.
      no_wider_so (access_says access claim.types) claim bytes after number first last g.outcome f l w r later h.answer h.table_after;
  no_wider_unjudged = λ bytes after claim number first last g f l w r later h.
      no_wider_so (done []) claim bytes after number first last g.outcome f l w r later h.answer h.table_after;
}
