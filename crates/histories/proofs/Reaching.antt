-- Whatever calls follow a fill, the bytes are those of a sound table. Assumes nothing.
use Rattle.std.specs.Prelude.{if◌then◌else◌, Ok}
use mathlib.Core.Path.{◌≡◌, refl, sym, ◌∙◌, ap}
use mathlib.Core.Bool.{Bool, true, false}
use mathlib.Core.List.{List, [], ◌∷◌, map}
use mathlib.Core.Logic.{◌⊎◌, inl, inr, ◌≢◌}
use Prim.Native.Nat.{ℕ, zero, suc, ◌+◌, ◌≤◌}
use native.Mathlib.Nat.{le_refl}
use native.Mathlib.Omega.{arith}
use borrow.Author.Tests.{ne_eqb}
use lib.ListN.{length, get_or, replicate, length-replicate, get_or-map}
use Rattle.words.specs.Said.{Said, done, refused, is_done, and_then, left}
use Rattle.words.specs.Number.{Bytes}
use Rattle.words.proofs.Tests.{differ, Each, none_any}
use Rattle.words.proofs.Left.{left_whole, not_done}
use Rattle.claims.specs.Claim.{with_range}
use Rattle.claims.specs.declared.claim.Claim.{Claim}
use Rattle.table.specs.Table.{Table}
use Rattle.table.specs.Layout.{Fits, count, table_of, bytes_of}
use Rattle.table.specs.Form.{is_length}
use Rattle.words.specs.Refusal.{says_by, plain_says}
use Rattle.table.specs.Fill.{filled, fill_says, Fills}
use Rattle.table.specs.Call.{says_of, left_of}
use Rattle.table.specs.declared.slot.Slot.{Slot}
use Rattle.table.specs.declared.slot.Slot.TheVariants.{Free, Held}
use Rattle.table.proofs.Cuts.{sized}
use Rattle.table.proofs.Tables.{bytes_length, bytes_table}
use Rattle.table.proofs.Means.{ordered, table_bytes}
use Rattle.table.proofs.Ordering.{fresh_order}
use Rattle.widest.specs.Widest.{Widest}
use Rattle.tokens.specs.Grant.{last_number, room_says, request_says, serve_says, granted, grant_says as plainSays}
use Rattle.tokens.specs.Widest.{Widened}
use Rattle.tokens.proofs.Kept.{passed, grant_order}
use Rattle.returns.specs.Return.{return_says, returned}
use Rattle.returns.specs.DropHost.{is_hosts, freed, drop_says, dropped}
use Rattle.returns.proofs.Kept.{return_order, drop_order}
use Rattle.audit.specs.Audit.{apart, Audits, Quiet}
use Rattle.audit.proofs.Exactly.{free_last, from_free, apart_tokens, exactly}
use Rattle.access.specs.Access.{Access, access_says}
use Rattle.desk.specs.Order.{judged_says}
use Rattle.desk.specs.Grant.{grant_says}
use Rattle.histories.specs.History.{Done, Call, to_fill, to_ask, to_ask_unjudged, to_grant, to_grant_unjudged, to_grant_widest, to_grant_widest_unjudged, to_return, to_drop_host, to_audit, is_fill, Leaves, RunsBy, Runs, Reached, Resumed, Gives, judged, unjudged, widest, widest_unjudged}
use Rattle.histories.specs.Callback.{slot_at}
use Rattle.histories.specs.Demands.{NumbersOnceOf, NumbersOnce}
use Rattle.histories.proofs.Answers.{same_value}
use Rattle.histories.proofs.Soundness.{AllApart, Sound, Shrunk, shrunk_apart, granted_apart}
use Rattle.histories.proofs.Spelling.{next, says_there, left_there}
use Rattle.histories.proofs.Giving.{gave_sound}
use Rattle.histories.proofs.Widening.{without_verdict, served, grant_by, judged_passed, it_is_widest, widening}

-- bytes that a sound table spells
pub record Stands (bytes : List ℕ) : Type 0 where
  pub table : Table
  pub spelled : bytes ≡ bytes_of table
  pub sound : Sound table

free_slot : (n i : ℕ) → get_or (replicate n Free) i Free ≡ Free
free_slot zero i = refl
free_slot (suc n) zero = refl
free_slot (suc n) (suc i) = free_slot n i

fresh_sound : (n : ℕ) → 1 ≤ n → n ≤ 1024 → Sound (filled n)
unfolding filled
fresh_sound n some few = record {
  order = fresh_order n some few;
  all = record { at = λ i j d. rw (free_slot n i) (from_free (get_or (replicate n Free) j Free)) };
}

fresh_length : (n : ℕ) → length (filled n).slots ≡ n
unfolding filled
fresh_length n = length-replicate n Free

-- a fill leaves a fresh table, or is refused
filling : (bytes : List ℕ) (r : Done) (after : List ℕ) → Fills bytes r after → Stands after ⊎ ((plain_says r ≡ refused 30 []) × (after ≡ bytes))
unfolding fill_says left
filling bytes r after f = go (is_length (length bytes)) refl f.answer f.table_after
  where
    go : (b : Bool) → is_length (length bytes) ≡ b → plain_says r ≡ (if b then done [] else refused 30 [])
        → after ≡ left (if b then done [] else refused 30 []) (bytes_of (filled (count bytes))) bytes → Stands after ⊎ ((plain_says r ≡ refused 30 []) × (after ≡ bytes))
    go true q e z =
        let size = sized bytes q in
        let long : length (bytes_of (filled (count bytes))) ≡ length bytes = bytes_length (filled (count bytes)) ∙ rw (fresh_length (count bytes)) (sym size.whole) in
        inl (record {
          table = filled (count bytes);
          spelled = z ∙ left_whole [] (bytes_of (filled (count bytes))) bytes long;
          sound = fresh_sound (count bytes) size.some size.few;
        })
    go false q e z = inr (e, z)

-- bytes that stand, and whose next number is not below this one
pub record Follows (number : ℕ) (bytes : List ℕ) : Type 0 where
  pub stands : Stands bytes
  pub rises : number ≤ stands.table.next

-- a call that keeps tables sound, and does not lower next, keeps what stands
module _ (says : Table → Said) (changed : Table → Table) (t : Table) (sound : Sound t)
    (keeps : (values : List ℕ) → says t ≡ done values → Sound (changed t) × (length (changed t).slots ≡ length t.slots))
    (rises : t.next ≤ (changed t).next) where
  stays : {bytes after : List ℕ} → bytes ≡ bytes_of t → after ≡ left_of says changed bytes → Follows t.next after
  unfolding next
  stays p e = record {
    stands = record {
      table = next (says t) (changed t) t;
      spelled = e ∙ ap (left_of says changed) p ∙ left_there says t sound.order changed (λ values z. (keeps values z).1);
      sound = go (says t) refl;
    };
    rises = up (says t);
  }
    where
      go : (said : Said) → says t ≡ said → Sound (next said (changed t) t)
      go (done values) z = (keeps values z).0
      go (refused number values) z = sound

      up : (said : Said) → t.next ≤ (next said (changed t) t).next
      up (done values) = rises
      up (refused number values) = le_refl t.next

-- the widest range is of bytes
wide_fits : (claim : Claim) → Fits claim → {t : Table} {first last : ℕ} → Widest t claim first last → Fits (with_range claim first last)
wide_fits claim fits w = record {
  types = fits.types;
  host = fits.host;
  hi = fits.hi;
  lo = fits.lo;
  first = omega (arith, fits.first, w.serves.holds.0);
  last = omega (arith, w.serves.ends);
}

module _ (claim : Claim) (fits : Fits claim) (t : Table) (sound : Sound t) where
  granting : (values : List ℕ) → plainSays claim t ≡ done values → Sound (granted claim t) × (length (granted claim t).slots ≡ length t.slots)
  granting values e =
      let o = grant_order claim t values e sound.order fits in
      (record { order = o.0; all = granted_apart t sound claim (passed claim t values e) }, o.1)

module _ (claim : Claim) (access : Access) (t : Table) where
  as_plain : (values : List ℕ) → grant_says claim access t ≡ done values → plainSays claim t ≡ done values
  unfolding grant_says judged_says plainSays
  as_plain values e = without_verdict (request_says claim t) (access_says access claim.types) (serve_says claim t) values e

itself : (slot : Slot) → Shrunk slot slot
unfolding Shrunk
itself Free = tt
itself (Held number a) = record {
  number_same = refl;
  within = record { types = λ i e. e; host = refl; file = refl; first = le_refl a.first; last = le_refl a.last };
}

freed_shrunk : (host : ℕ) (slot : Slot) → Shrunk (freed host slot) slot
unfolding freed Shrunk
freed_shrunk host slot = go (is_hosts host slot)
  where
    go : (b : Bool) → Shrunk (if b then Free else slot) slot
    go true = tt
    go false = itself slot

dropping : (host : ℕ) (t : Table) → Sound t → Sound (dropped host t) × (length (dropped host t).slots ≡ length t.slots)
unfolding dropped freed is_hosts
dropping host t sound =
    let o = drop_order t sound.order host in
    (record { order = o.0; all = shrunk_apart t (map (freed host) t.slots) sound.all (λ i. rw (get_or-map (freed host) t.slots i Free) (freed_shrunk host (slot_at t i))) }, o.1)

granted_next : (claim : Claim) (t : Table) → (granted claim t).next ≡ t.next + 1
unfolding granted
granted_next claim t = refl

granted_rises : (claim : Claim) (t : Table) → t.next ≤ (granted claim t).next
granted_rises claim t = omega (arith, granted_next claim t)

returned_rises : (host number types : ℕ) (t : Table) → t.next ≤ (returned host number types t).next
unfolding returned
returned_rises host number types t = le_refl t.next

dropped_rises : (host : ℕ) (t : Table) → t.next ≤ (dropped host t).next
unfolding dropped
dropped_rises host t = le_refl t.next

-- what is only read stays
as_it_was : {before after : List ℕ} → after ≡ before → (s : Stands before) → Follows s.table.next after
as_it_was e s = record { stands = record { table = s.table; spelled = e ∙ s.spelled; sound = s.sound }; rises = le_refl s.table.next }

-- a widest grant grants the claim with the range that it found
module _ (verdict : Said) (claim : Claim) (fits : Fits claim) (t : Table) (sound : Sound t) where
  widened_follows : {bytes after : List ℕ} {said : Said} → bytes ≡ bytes_of t → Widened (grant_by verdict claim) bytes claim said after → Follows t.next after
  unfolding is_done
  widened_follows {bytes} p w =
      stays (grant_by verdict claim) (granted (with_range claim w.first w.last)) t sound
      (λ values e.
      let wide : Widest t claim w.first w.last =
      rw (p, table_bytes t sound.order) at (w.widest (rw (p, says_there (grant_by verdict claim) t sound.order, e) refl)) in
      granting (with_range claim w.first w.last) (wide_fits claim fits wide) t sound (t.next ∷ [])
      (served t claim (judged_passed verdict claim t values e) w.first w.last wide.serves.holds.0 wide.serves.holds.1 wide.serves))
      (granted_rises (with_range claim w.first w.last) t) p w.table_after

call_follows : (call : Call) (before after : List ℕ) → is_fill call ≡ false → Leaves call before after → (s : Stands before) → Follows s.table.next after
unfolding Leaves is_fill grant_says plainSays judged_says and_then
call_follows to_fill before after f l s = absurd (differ f)
call_follows (to_ask claim access out) before after f l s = as_it_was l.0 s
call_follows (to_ask_unjudged claim out) before after f l s = as_it_was l.0 s
call_follows (to_grant claim access) before after f l s =
    stays (grant_says claim access) (granted claim) s.table s.sound
    (λ values e. granting claim l.0 s.table s.sound values (as_plain claim access s.table values e)) (granted_rises claim s.table) s.spelled l.2.table_after
call_follows (to_grant_unjudged claim) before after f l s =
    stays (plainSays claim) (granted claim) s.table s.sound (granting claim l.0 s.table s.sound) (granted_rises claim s.table) s.spelled l.2.table_after
call_follows (to_grant_widest claim access) before after f l s =
    widened_follows (access_says access claim.types) claim l.0 s.table s.sound s.spelled l.2.outcome
call_follows (to_grant_widest_unjudged claim) before after f l s =
    widened_follows (done []) claim l.0 s.table s.sound s.spelled l.2.outcome
call_follows (to_return g) before after f l s =
    stays (return_says g.host g.number g.types) (returned g.host g.number g.types) s.table s.sound
    (λ values e. (gave_sound g s.table s.sound values e, (return_order s.table s.sound.order g.host g.number g.types).1))
    (returned_rises g.host g.number g.types s.table) s.spelled l.1.table_after
call_follows (to_drop_host host) before after f l s =
    stays (drop_says host) (dropped host) s.table s.sound (λ values e. dropping host s.table s.sound) (dropped_rises host s.table) s.spelled l.1.table_after
call_follows to_audit before after f l s = as_it_was l.0 s

-- and so do calls with no fill among them
runs_follow : (calls : List Call) (before after : List ℕ) → Each (λ call. is_fill call ≡ false) calls → Runs calls before after → (s : Stands before) → Follows s.table.next after
unfolding RunsBy Each
runs_follow [] before after f r s = as_it_was r s
runs_follow (call ∷ calls) before after f r s =
    let w = call_follows call before r.0 f.0 r.1 s in
    let v = runs_follow calls r.0 after f.1 r.2 w.stands in
    record { stands = v.stands; rises = omega (arith, w.rises, v.rises) }

call_stands : (call : Call) (before after : List ℕ) → Leaves call before after → Stands before → Stands after
unfolding Leaves is_fill
call_stands to_fill before after l s = go (filling before l.0 after l.1)
  where
    go : Stands after ⊎ ((plain_says l.0 ≡ refused 30 []) × (after ≡ before)) → Stands after
    go (inl p) = p
    go (inr p) = (as_it_was p.1 s).stands
call_stands (to_ask claim access out) before after l s = (call_follows (to_ask claim access out) before after refl l s).stands
call_stands (to_ask_unjudged claim out) before after l s = (call_follows (to_ask_unjudged claim out) before after refl l s).stands
call_stands (to_grant claim access) before after l s = (call_follows (to_grant claim access) before after refl l s).stands
call_stands (to_grant_unjudged claim) before after l s = (call_follows (to_grant_unjudged claim) before after refl l s).stands
call_stands (to_grant_widest claim access) before after l s = (call_follows (to_grant_widest claim access) before after refl l s).stands
call_stands (to_grant_widest_unjudged claim) before after l s = (call_follows (to_grant_widest_unjudged claim) before after refl l s).stands
call_stands (to_return g) before after l s = (call_follows (to_return g) before after refl l s).stands
call_stands (to_drop_host host) before after l s = (call_follows (to_drop_host host) before after refl l s).stands
call_stands to_audit before after l s = (call_follows to_audit before after refl l s).stands

runs_stand : (calls : List Call) (before after : List ℕ) → Runs calls before after → Stands before → Stands after
unfolding RunsBy
runs_stand [] before after r s = (as_it_was r s).stands
runs_stand (call ∷ calls) before after r s = runs_stand calls r.0 after r.2 (call_stands call before r.0 r.1 s)

pub reached_stands : (bytes : List ℕ) → Reached bytes → Stands bytes
unfolding says_by
reached_stands bytes r = runs_stand r.calls r.fresh bytes r.runs (go (filling r.lent (Ok tt) r.fresh r.fill))
  where
    go : Stands r.fresh ⊎ ((plain_says (Ok tt) ≡ refused 30 []) × (r.fresh ≡ r.lent)) → Stands r.fresh
    go (inl p) = p
    go (inr p) = absurd (not_done 30 [] [] (sym p.0))

-- bytes to which the audit says yes stand
audited_apart : (t : Table) → Quiet t → AllApart t
audited_apart t q = record { at = λ i j d. go (slot_at t i) (slot_at t j) i j d refl refl }
  where
    go : (a b : Slot) (i j : ℕ) → i ≢ j → slot_at t i ≡ a → slot_at t j ≡ b → apart a b ≡ true
    go Free b i j d p r = from_free b
    go (Held number a) Free i j d p r = free_last (Held number a)
    go (Held number a) (Held other b) i j d p r =
        apart_tokens number other a b (q.numbers_differ i j number other a b d p r) (q.nothing_conflicts i j number other a b d p r)

audited_stands : (bytes : List ℕ) → Bytes bytes → Audits bytes true → Stands bytes
audited_stands bytes lent a =
    let e = (exactly bytes).0 (sym a.answer) in
    record {
      table = table_of bytes;
      spelled = sym (bytes_table bytes e.0 lent);
      sound = record { order = ordered bytes lent e.0; all = audited_apart (table_of bytes) e.1 };
    }

pub resumed_stands : (bytes : List ℕ) → Resumed bytes → Stands bytes
resumed_stands bytes r = runs_stand r.calls r.kept bytes r.runs (audited_stands r.kept r.lent r.audit)

-- a grant that is done gives the next number, and raises it
module _ (claim : Claim) (fits : Fits claim) (t : Table) (sound : Sound t) (number : ℕ) where
  its_number : plainSays claim t ≡ done (number ∷ []) → number ≡ t.next
  unfolding plainSays request_says serve_says room_says and_then
  its_number e =
      let p = passed claim t (number ∷ []) e in
      let says : plainSays claim t ≡ done (t.next ∷ []) = rw (p.shaped, p.harmless, p.room, ne_eqb t.next last_number p.numbers_left) refl in
      same_value number t.next (sym e ∙ says)

  given_follows : (says : Table → Said) → (says t ≡ done (number ∷ []) → plainSays claim t ≡ done (number ∷ []))
      → (bytes after : List ℕ) → bytes ≡ bytes_of t → done (number ∷ []) ≡ says_of says bytes → after ≡ left_of says (granted claim) bytes
      → (number ≡ t.next) × Follows (number + 1) after
  unfolding next
  given_follows says plain bytes after p e q =
      let spoken : says t ≡ done (number ∷ []) = sym (e ∙ ap (says_of says) p ∙ says_there says t sound.order) in
      let n = its_number (plain spoken) in
      let o = granting claim fits t sound (number ∷ []) (plain spoken) in
      let spelled : after ≡ bytes_of (granted claim t) = q ∙ ap (left_of says (granted claim)) p ∙ left_there says t sound.order (granted claim) (λ values z. o.1) ∙ rw spoken refl in
      (n, record { stands = record { table = granted claim t; spelled = spelled; sound = o.0 }; rises = omega (arith, granted_next claim t) })

gives_follows : (bytes : List ℕ) (s : Stands bytes) (number : ℕ) (after : List ℕ) → Gives bytes number after → (number ≡ s.table.next) × Follows (number + 1) after
unfolding says_by grant_says plainSays judged_says and_then
gives_follows bytes s number after (judged claim access fits g) =
    given_follows claim fits s.table s.sound number (grant_says claim access) (as_plain claim access s.table (number ∷ [])) bytes after s.spelled g.answer g.table_after
gives_follows bytes s number after (unjudged claim fits g) =
    given_follows claim fits s.table s.sound number (plainSays claim) (λ e. e) bytes after s.spelled g.answer g.table_after
gives_follows bytes s number after (widest claim access first last fits g) =
    let wide = with_range claim first last in
    let h = widening.as_grant bytes after claim access number first last g in
    given_follows wide (wide_fits claim fits (it_is_widest (access_says access claim.types) claim bytes after number first last g.outcome)) s.table s.sound number
    (grant_says wide access) (as_plain wide access s.table (number ∷ [])) bytes after s.spelled h.answer h.table_after
gives_follows bytes s number after (widest_unjudged claim first last fits g) =
    let wide = with_range claim first last in
    let h = widening.as_grant_unjudged bytes after claim number first last g in
    given_follows wide (wide_fits claim fits (it_is_widest (done []) claim bytes after number first last g.outcome)) s.table s.sound number
    (plainSays wide) (λ e. e) bytes after s.spelled h.answer h.table_after

-- wherever the bytes stand
pub numbers_rise : (reached : List ℕ → Type 0) → ((bytes : List ℕ) → reached bytes → Stands bytes) → NumbersOnceOf reached
numbers_rise reached stand bytes r number after g calls f later runs other last h =
    let s = stand bytes r in
    let first = (gives_follows bytes s number after g).1 in
    let w = runs_follow calls after later (none_any is_fill calls f) runs first.stands in
    let n = (gives_follows later w.stands other last h).0 in
    omega (arith, first.rises, w.rises)

pub numbers_once : NumbersOnce
numbers_once = numbers_rise Reached reached_stands
