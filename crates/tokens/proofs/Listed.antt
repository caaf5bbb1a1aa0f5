-- The list of what is in the way, entry by entry. Assumes nothing.
use Rattle.std.specs.Prelude.{if◌then◌else◌}
use mathlib.Core.Path.{◌≡◌, refl, sym, ◌∙◌, ap}
use mathlib.Core.Bool.{Bool, true, false, cond}
use mathlib.Core.List.{List, [], ◌∷◌, ◌++◌, map, append_assoc, append-nil}
use Prim.Native.Nat.{ℕ, ◌+◌, ◌*◌, ◌≤◌, ◌<◌}
use native.Mathlib.Nat.{zero-add, le_of_eq}
use native.Mathlib.Omega.{arith}
use borrow.Author.Tests.{ne_eqb}
use lib.ListN.{length, drop, set, length-append}
use Rattle.words.specs.Test.{those}
use Rattle.words.specs.Writing.{digits, over, written}
use Rattle.words.proofs.Tests.{Each, differ, map_append, those_append, those_pass}
use Rattle.words.proofs.Written.{digits_length, over_length, over_next, over_none, set_over, next_written}
use Rattle.claims.specs.Rule.{conflict}
use Rattle.claims.specs.declared.claim.Claim.{Claim}
use Rattle.table.specs.Table.{Table, is_in_the_way}
use Rattle.table.specs.Layout.{width, slot_of, slots_in, table_of, joined}
use Rattle.table.specs.declared.slot.Slot.{Slot}
use Rattle.table.specs.declared.slot.Slot.TheVariants.{Free, Held}
use Rattle.table.proofs.Slots.{Passing, cuts, none_passed, one_passed, all_passed}
use Rattle.tokens.specs.Ask.{entry_bytes, entry_for, in_the_way, list_for}
use Rattle.tokens.specs.Scan.{entry_if, Lists}

entry_length : (number host types : ℕ) → length (entry_bytes number host types) ≡ 13
unfolding entry_bytes
entry_length number host types = simp (length-append, digits_length)

pub entry_written : (out : List ℕ) (at number host types : ℕ) (t u v : List ℕ) → at + 13 ≤ length out
    → t ≡ written (at + 1) (digits 8 number) (set out at 3) → u ≡ written (at + 9) (digits 2 host) t → v ≡ written (at + 11) (digits 2 types) u
    → v ≡ over at (entry_bytes number host types) out
unfolding entry_bytes
entry_written out at number host types t u v h p q r =
    let first : set out at 3 ≡ over at (3 ∷ []) out = set_over out at 3 (omega arith) in
    let a = next_written at 1 (3 ∷ []) (digits 8 number) out (set out at 3) t refl (rw (digits_length 8 number) (omega arith)) first p in
    let b = next_written at 9 ((3 ∷ []) ++ digits 8 number) (digits 2 host) out t u (simp (length-append, digits_length)) (rw (digits_length 2 host) (omega arith)) a q in
    next_written at 11 ((3 ∷ []) ++ digits 8 number ++ digits 2 host) (digits 2 types) out u v (simp (length-append, digits_length)) (rw (digits_length 2 types) (omega arith)) b r

-- a token's entry, where it is in the way and where it is not
module _ (number : ℕ) (held claim : Claim) (out : List ℕ) (at : ℕ) {types : ℕ} (told : types ≡ conflict held claim) where
  pub token_passed : types ≡ 0 → Lists (Held number held) claim out at at out
  unfolding entry_if is_in_the_way
  token_passed z =
      let none : conflict held claim ≡ 0 = sym told ∙ z in
      record { end = rw (none) (omega arith); out_after = rw (none) (sym (over_none at out)) }

  pub token_listed : (types ≡ 0 → ⊥) → {after : List ℕ} → after ≡ over at (entry_bytes number held.host types) out → Lists (Held number held) claim out at (at + 13) after
  unfolding entry_if is_in_the_way entry_for
  token_listed some e =
      let n = ne_eqb (conflict held claim) 0 (λ z. some (told ∙ z)) in
      record { end = rw (n, entry_length number held.host (conflict held claim)) refl; out_after = e ∙ rw (n, told) refl }

entry_short : (claim : Claim) (slot : Slot) → length (entry_if claim slot) ≤ 13
unfolding entry_if entry_for
entry_short claim slot = go slot (is_in_the_way claim slot)
  where
    go : (slot : Slot) (b : Bool) → length (if b then entry_for claim slot else []) ≤ 13
    go slot false = omega arith
    go Free true = omega arith
    go (Held number held) true = le_of_eq (entry_length number held.host (conflict held claim))

-- the entries of some slots
unfoldable pub entries : Claim → List Slot → List ℕ
entries claim slots = joined (map (entry_for claim) (those (is_in_the_way claim) slots))

joined_append : (xs ys : List (List ℕ)) → joined (xs ++ ys) ≡ joined xs ++ joined ys
unfolding joined
joined_append [] ys = refl
joined_append (x ∷ xs) ys = ap (λ (zs : List ℕ). x ++ zs) (joined_append xs ys) ∙ sym (append_assoc x (joined xs) (joined ys))

module _ (claim : Claim) where
  entries_append : (xs ys : List Slot) → entries claim (xs ++ ys) ≡ entries claim xs ++ entries claim ys
  unfolding entries
  entries_append xs ys =
      ap (λ (zs : List Slot). joined (map (entry_for claim) zs)) (those_append (is_in_the_way claim) xs ys)
      ∙ ap joined (map_append (entry_for claim) (those (is_in_the_way claim) xs) (those (is_in_the_way claim) ys))
      ∙ joined_append (map (entry_for claim) (those (is_in_the_way claim) xs)) (map (entry_for claim) (those (is_in_the_way claim) ys))

  one_entry : (slot : Slot) → entries claim (slot ∷ []) ≡ entry_if claim slot
  unfolding entries entry_if those joined
  one_entry slot = go (is_in_the_way claim slot)
    where
      go : (b : Bool) → joined (map (entry_for claim) (cond b (slot ∷ []) [])) ≡ (if b then entry_for claim slot else [])
      go true = append-nil (entry_for claim slot)
      go false = refl

-- each entry takes 13 bytes
in_the_way_long : (claim : Claim) (slot : Slot) → is_in_the_way claim slot ≡ true → length (entry_for claim slot) ≡ 13
unfolding is_in_the_way entry_for
in_the_way_long claim Free e = absurd (differ (sym e))
in_the_way_long claim (Held number held) e = entry_length number held.host (conflict held claim)

all_long : (claim : Claim) (slots : List Slot) → Each (λ slot. is_in_the_way claim slot ≡ true) slots → length (joined (map (entry_for claim) slots)) ≡ 13 * length slots
unfolding Each joined
all_long claim [] e = refl
all_long claim (s ∷ ss) e =
    length-append (entry_for claim s) (joined (map (entry_for claim) ss)) ∙ rw (in_the_way_long claim s e.0, all_long claim ss e.1) (omega arith)

entries_length : (claim : Claim) (slots : List Slot) → length (entries claim slots) ≡ 13 * length (those (is_in_the_way claim) slots)
unfolding entries
entries_length claim slots = all_long claim (those (is_in_the_way claim) slots) (those_pass (is_in_the_way claim) slots)

pub list_length : (claim : Claim) (t : Table) → length (list_for claim t) ≡ 13 * length (in_the_way claim t)
unfolding list_for in_the_way entries
list_length claim t = entries_length claim t.slots

listed : (claim : Claim) (bytes : List ℕ) → list_for claim (table_of bytes) ≡ entries claim (table_of bytes).slots
unfolding list_for in_the_way entries
listed claim bytes = refl

-- what was written of the slots that the loop has passed
pub record Noted (bytes : List ℕ) (claim : Claim) (out₀ out : List ℕ) (end at size : ℕ) (rest : List ℕ) : Type 0 where
  pub slots : Passing (slots_in bytes) size rest
  pub same : length out ≡ length out₀
  pub room : end ≤ length out₀
  pub whole : end ≡ length (list_for claim (table_of bytes))
  pub place : at ≡ length (entries claim (map slot_of slots.passed))
  pub noted : out ≡ over 0 (entries claim (map slot_of slots.passed)) out₀

module _ (bytes : List ℕ) (claim : Claim) (out₀ : List ℕ) (end : ℕ) where
  pub none_noted : {size : ℕ} {rest : List ℕ} → end ≡ length (list_for claim (table_of bytes)) → end ≤ length out₀ → size ≡ width → rest ≡ drop width bytes
      → Noted bytes claim out₀ out₀ end 0 size rest
  unfolding entries those joined none_passed
  none_noted whole room w r = record {
    slots = none_passed bytes w r;
    same = refl;
    room = room;
    whole = whole;
    place = refl;
    noted = sym (over_none 0 out₀);
  }

  module _ {out : List ℕ} {at size : ℕ} {rest : List ℕ} (so_far : Noted bytes claim out₀ out end at size rest) where
    -- the list so far, and what is missing
    split : (more : List (List ℕ)) → slots_in bytes ≡ so_far.slots.passed ++ more → list_for claim (table_of bytes) ≡ entries claim (map slot_of so_far.slots.passed) ++ entries claim (map slot_of more)
    unfolding table_of
    split more e =
        listed claim bytes ∙ ap (λ (slots : List (List ℕ)). entries claim (map slot_of slots)) e
        ∙ ap (entries claim) (map_append slot_of so_far.slots.passed more) ∙ entries_append claim (map slot_of so_far.slots.passed) (map slot_of more)

    long : end ≡ at + length (entries claim (map slot_of (cuts rest)))
    long =
        omega (arith, so_far.whole, so_far.place, ap length (split (cuts rest) so_far.slots.whole), length-append (entries claim (map slot_of so_far.slots.passed)) (entries claim (map slot_of (cuts rest))))

    -- while entries are missing there is room for one more
    pub room_left : (at ≡ end → ⊥) → at + 13 ≤ length out
    room_left h =
        omega (arith, so_far.room, so_far.same, so_far.whole, so_far.place, long, h, list_length claim (table_of bytes), entries_length claim (map slot_of so_far.slots.passed))

    pub one_noted : (slot more : List ℕ) → (rest ≡ slot ++ more) × (length slot ≡ size) → (at ≡ end → ⊥) → {value : Slot} → value ≡ slot_of slot → {next : ℕ} {after : List ℕ} {size' : ℕ}
        → size' ≡ size → Lists value claim out at next after → Noted bytes claim out₀ after end next size' more
    unfolding one_passed
    one_noted slot more given h {value} read {next} {after} w l =
        let kept : length after ≡ length out =
        ap length l.out_after ∙ over_length at (entry_if claim value) out (omega (arith, room_left h, entry_short claim value)) in
        let passed = so_far.slots.passed in
        let xs = entries claim (map slot_of passed) in
        let longer : entries claim (map slot_of (passed ++ slot ∷ [])) ≡ xs ++ entry_if claim value =
        ap (entries claim) (map_append slot_of passed (slot ∷ [])) ∙ entries_append claim (map slot_of passed) (slot_of slot ∷ [])
        ∙ rw (one_entry claim (slot_of slot), ← read) refl in
        let fits : 0 + at ≤ length out₀ = omega (arith, room_left h, so_far.same) in
        let joint : over at (entry_if claim value) (over 0 xs out₀) ≡ over 0 (xs ++ entry_if claim value) out₀ =
        ap (λ (n : ℕ). over n (entry_if claim value) (over 0 xs out₀)) (sym (zero-add at)) ∙ over_next 0 at xs (entry_if claim value) out₀ (sym so_far.place) fits in
        record {
          slots = one_passed so_far.slots slot more given w;
          same = kept ∙ so_far.same;
          room = so_far.room;
          whole = so_far.whole;
          place = l.end ∙ rw (longer, length-append xs (entry_if claim value), so_far.place) refl;
          noted = l.out_after ∙ rw (so_far.noted, longer) joint;
        }

    -- all entries are there, or all slots are passed
    pub all_noted : at ≡ end → out ≡ over 0 (list_for claim (table_of bytes)) out₀
    all_noted h =
        let more = entries claim (map slot_of (cuts rest)) in
        let none : length more ≡ 0 = omega (arith, long, h) in
        so_far.noted
        ∙ rw (split (cuts rest) so_far.slots.whole, nothing more none) (ap (λ (xs : List ℕ). over 0 xs out₀) (sym (append-nil (entries claim (map slot_of so_far.slots.passed)))))
      where
        nothing : (xs : List ℕ) → length xs ≡ 0 → xs ≡ []
        nothing [] e = refl
        nothing (x ∷ xs) e = absurd (omega arith)

    pub all_slots : length rest < size → out ≡ over 0 (list_for claim (table_of bytes)) out₀
    unfolding table_of
    all_slots h =
        so_far.noted
        ∙ ap (λ (xs : List ℕ). over 0 xs out₀) (sym (listed claim bytes ∙ ap (λ (slots : List (List ℕ)). entries claim (map slot_of slots)) (all_passed so_far.slots h)))
