-- After any returns a request is refused for conflict exactly while a listed type is still held, and otherwise served. Assumes nothing.
use Rattle.std.specs.Prelude.{if◌then◌else◌}
use mathlib.Core.Path.{◌≡◌, refl, sym, ◌∙◌, ap}
use mathlib.Core.Bool.{Bool, true, false, not}
use mathlib.Core.List.{List, [], ◌∷◌, Memᴰ}
use mathlib.Core.Logic.{◌≢◌, ◌↔◌}
use Prim.Native.Nat.{ℕ, ◌<◌}
use native.Mathlib.Omega.{arith}
use borrow.Author.Tests.{eqb-false, ne_eqb, not-true}
use lib.Dec.{eqb}
use Rattle.words.specs.Test.{any_of, place_of}
use Rattle.words.specs.Said.{done, refused}
use Rattle.words.specs.Bit.{bit}
use Rattle.words.proofs.Tests.{differ, fails}
use Rattle.words.proofs.Left.{not_done}
use Rattle.claims.specs.Types.{kinds}
use Rattle.claims.specs.Rule.{conflict}
use Rattle.claims.specs.Claim.{with_types}
use Rattle.claims.specs.declared.claim.Claim.{Claim}
use Rattle.claims.proofs.Sets.{nonempty, member}
use Rattle.claims.proofs.Within.{conflict_within, conflict_own, conflict_still}
use Rattle.table.specs.Table.{Table, is_free, is_in_the_way}
use Rattle.table.specs.declared.slot.Slot.{Slot}
use Rattle.table.specs.declared.slot.Slot.TheVariants.{Free, Held}
use Rattle.tokens.specs.Grant.{last_number, room_says, serve_says}
use Rattle.histories.specs.Callback.{slot_at, Item, Holds, Entry, Listed, Turn, GivenBack}
use Rattle.histories.proofs.Answers.{same_refusal}
use Rattle.histories.proofs.Places.{any_at, there}
use Rattle.histories.proofs.Soundness.{Sound, free_harmless}
use Rattle.histories.proofs.Giving.{within}
use Rattle.histories.proofs.Turns.{give_all, Answered, KeptTable, all_kept, was, one_token, given_gone, lost_given}
use Rattle.histories.proofs.Entries.{entry_of, entries, source, entry_in_lem}

pub room_not_conflict : (t : Table) → room_says t ≢ refused 32 []
unfolding room_says
room_not_conflict t e = go (any_of is_free t.slots) (eqb t.next last_number) e
  where
    go : (b c : Bool) → (if not b then refused 33 [] else if c then refused 34 [] else done (t.next ∷ [])) ≡ refused 32 [] → ⊥
    go true true z = let n = same_refusal 34 32 [] [] z in omega arith
    go true false z = not_done 32 [] (t.next ∷ []) (sym z)
    go false c z = let n = same_refusal 33 32 [] [] z in omega arith

module _ (claim : Claim) (t : Table) where
  pub conflicts : any_of (is_in_the_way claim) t.slots ≡ true → serve_says claim t ≡ refused 32 []
  unfolding serve_says
  conflicts e = rw e refl

  only_room : any_of (is_in_the_way claim) t.slots ≡ false → serve_says claim t ≡ room_says t
  unfolding serve_says
  only_room e = rw e refl

  some_conflict : serve_says claim t ≡ refused 32 [] → any_of (is_in_the_way claim) t.slots ≡ true
  some_conflict e = go (any_of (is_in_the_way claim) t.slots) refl
    where
      go : (b : Bool) → any_of (is_in_the_way claim) t.slots ≡ b → b ≡ true
      go true q = refl
      go false q = absurd (room_not_conflict t (sym (only_room q) ∙ e))

  pub otherwise : serve_says claim t ≢ refused 32 [] → serve_says claim t ≡ room_says t
  otherwise n = only_room (fails (any_of (is_in_the_way claim) t.slots) (λ e. n (conflicts e)))

  -- a token that is in the way
  record InTheWay : Type 0 where
    pub place : ℕ
    pub number : ℕ
    pub held : Claim
    pub at : slot_at t place ≡ Held number held
    pub busy : conflict held claim ≢ 0

  who : any_of (is_in_the_way claim) t.slots ≡ true → InTheWay
  unfolding is_in_the_way
  who e = go (slot_at t k) refl (there (is_in_the_way claim) t.slots e)
    where
      k : ℕ
      k = place_of (is_in_the_way claim) t.slots

      go : (slot : Slot) → slot_at t k ≡ slot → is_in_the_way claim slot ≡ true → InTheWay
      go Free p q = absurd (differ (sym q))
      go (Held number held) p q =
          record { place = k; number = number; held = held; at = p; busy = eqb-false (conflict held claim) 0 (not-true (eqb (conflict held claim) 0) q) }

  busy_at : (i number : ℕ) (held : Claim) → slot_at t i ≡ Held number held → conflict held claim ≢ 0 → is_in_the_way claim (slot_at t i) ≡ true
  unfolding is_in_the_way
  busy_at i number held p b = rw (p, ne_eqb (conflict held claim) 0 b) refl

  -- what is listed is held
  pub listed_holds : (x : Item) → Listed (entries claim t.slots) x → (x.type < kinds) × Holds t x
  unfolding entry_of
  listed_holds x l =
      let s = source claim t.slots l.entry l.member in
      let n : s.number ≡ x.number = sym (ap (λ (e : Entry). e.number) s.is) ∙ l.number in
      let e : bit x.type (conflict s.held claim) ≡ true = rw s.is at l.type in
      let p = conflict_own s.held claim x.type e in
      (p.1, record { place = s.place; claim = s.held; at = rw n at s.at; host = sym (ap (λ (e : Entry). e.host) s.is) ∙ l.host; type = p.0 })

module _ (claim : Claim) (t₀ t : Table) (kept : KeptTable t t₀) where
  -- in the way after the returns: it was listed, and is still held
  listed_held : InTheWay claim t → (x : Item) × Listed (entries claim t₀.slots) x × Holds t x
  unfolding entry_of
  listed_held w =
      let o = was t t₀ kept w.place w.number w.held w.at in
      let m = member (conflict w.held claim) w.busy in
      let old = conflict_within w.held o.claim claim (within w.number w.number w.held o.claim o.kept) m.0 m.1 in
      let e : Memᴰ (entry_of claim (slot_at t₀ w.place)) (entries claim t₀.slots) =
      entry_in_lem claim t₀.slots w.place (busy_at claim t₀ w.place w.number o.claim o.at (nonempty (conflict o.claim claim) m.0 old)) in (
        record { number = w.number; host = o.claim.host; type = m.0 },
        record { entry = entry_of claim (Held w.number o.claim); member = rw o.at at e; number = refl; host = refl; type = old },
        record {
          place = w.place;
          claim = w.held;
          at = w.at;
          host = ap (λ (c : Claim). c.host) o.kept.same;
          type = (conflict_own w.held claim m.0 m.1).0;
        },
      )

  -- listed and still held: still in the way
  held_blocks : Sound t₀ → (x : Item) → Listed (entries claim t₀.slots) x → Holds t x → any_of (is_in_the_way claim) t.slots ≡ true
  unfolding entry_of
  held_blocks sound x l y =
      let s = source claim t₀.slots l.entry l.member in
      let o = was t t₀ kept y.place x.number y.claim y.at in
      let n : s.number ≡ x.number = sym (ap (λ (e : Entry). e.number) s.is) ∙ l.number in
      let c : s.held ≡ o.claim = one_token t₀ sound s.place y.place x.number s.held o.claim (rw n at s.at) o.at in
      let e : bit x.type (conflict s.held claim) ≡ true = rw s.is at l.type in
      let b : bit x.type (conflict (with_types o.claim y.claim.types) claim) ≡ true =
      conflict_still o.claim claim y.claim.types x.type (rw c at e) y.type in
      let b' : bit x.type (conflict y.claim claim) ≡ true = rw o.kept.same b in
      any_at (is_in_the_way claim) (free_harmless claim) t.slots y.place
      (busy_at claim t y.place x.number y.claim y.at (nonempty (conflict y.claim claim) x.type b'))

module _ (claim : Claim) (t : Table) (sound : Sound t) (turns : List Turn) where
  pub exactly : (serve_says claim (give_all turns t) ≡ refused 32 []) ↔ ((x : Item) × Listed (entries claim t.slots) x × Holds (give_all turns t) x)
  exactly = (
    λ e. listed_held claim t (give_all turns t) (all_kept turns t) (who claim (give_all turns t) (some_conflict claim (give_all turns t) e)),
    λ w. conflicts claim (give_all turns t) (held_blocks claim t (give_all turns t) (all_kept turns t) sound w.0 w.1 w.2),
  )

  module _ (answers : Answered turns t) where
    pub once_returned : ((x : Item) → Listed (entries claim t.slots) x → GivenBack turns x) → serve_says claim (give_all turns t) ≡ room_says (give_all turns t)
    once_returned all =
        otherwise claim (give_all turns t) (λ e. let w = exactly.0 e in given_gone turns t sound answers w.0 (all w.0 w.1) w.2)

    -- what is listed is held, so if the request is served it was given back
    pub least : serve_says claim (give_all turns t) ≡ room_says (give_all turns t) → (x : Item) → Listed (entries claim t.slots) x → GivenBack turns x
    least served x l =
        let h = listed_holds claim t x l in
        lost_given turns t answers x h.0 h.1 (λ y. room_not_conflict (give_all turns t) (sym served ∙ exactly.1 (x, l, y)))
