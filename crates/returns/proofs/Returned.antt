-- Returning, by the tests that the code makes. Assumes nothing.
use Rattle.std.specs.Prelude.{if◌then◌else◌, None, Some, Result, Ok, Err, position}
use mathlib.Core.Path.{◌≡◌, refl, sym, ◌∙◌, ap}
use mathlib.Core.Bool.{Bool, true, false, not, ◌||◌}
use mathlib.Core.List.{List, []}
use Prim.Native.Nat.{ℕ, ◌+◌, ◌-◌, ◌*◌, ◌≤◌, ◌<◌}
use native.Mathlib.Omega.{arith}
use borrow.Author.Tests.{ltb-false, eq-eqb, ne_eqb}
use lib.Bits.{bit_and}
use lib.Dec.{eqb, ltb}
use lib.ListN.{length, get_or, length-set}
use Rattle.words.specs.Test.{place_of}
use Rattle.words.specs.Said.{done, refused, left}
use Rattle.words.specs.Refusal.{refusal_number, refusal_value, values_in, refusal_says, says_by}
use Rattle.words.specs.declared.refusal.Refusal.{Refusal}
use Rattle.words.specs.declared.refusal.Refusal.TheVariants.{NotWellFormed, Malformed, NoSuchToken, TypeLacking}
use Rattle.words.specs.Number.{Bytes, part}
use Rattle.words.specs.Writing.{over}
use Rattle.words.proofs.Tests.{differ, or_right}
use Rattle.words.proofs.Found.{passes_there}
use Rattle.words.proofs.Left.{left_whole}
use Rattle.claims.specs.Types.{without, lacks}
use Rattle.claims.specs.Claim.{with_types, unfit}
use Rattle.claims.specs.declared.claim.Claim.{Claim}
use Rattle.claims.proofs.Fewer.{lacks_and, no_more, difference}
use Rattle.table.specs.Table.{Table, limit, put}
use Rattle.table.specs.Layout.{width, slot_of, slot_bytes, count, table_of, bytes_of}
use Rattle.table.specs.Form.{well_formed}
use Rattle.table.specs.Call.{says_of}
use Rattle.table.specs.declared.slot.Slot.{Slot}
use Rattle.table.specs.declared.slot.Slot.TheVariants.{Free, Held}
use Rattle.table.proofs.Cuts.{table_length, table_at}
use Rattle.table.proofs.Places.{position_at, position_some, position_none}
use Rattle.table.proofs.Tables.{form_size, bytes_table, put_bytes, bytes_length}
use Rattle.table.proofs.Means.{ordered, types_small, order_at}
use Rattle.table.proofs.Calls.{ill_refused, says_well, refusing, left_by}
use Rattle.returns.specs.Return.{is_of, types_in, keeps, loses, place_in, token_in, return_says, returned, Returns}
use Rattle.returns.specs.Slots.{loss_says, LosesFrom, slot_says, Loses}

-- what is left of a token
module _ (number : ℕ) (held : Claim) (types : ℕ) (small : held.types ≤ 255) (few : types ≤ 255) (all : lacks held.types types ≡ false) where
  left_types : held.types - types ≡ without held.types types
  left_types = difference held.types types (omega arith) all (omega arith)

  pub fewer : types ≤ held.types
  fewer = no_more held.types types (omega arith) all

  pub nothing_left : held.types - types ≡ 0 → Free ≡ keeps types number held
  unfolding keeps
  nothing_left e = rw (← left_types, e) refl

  pub some_left : (held.types - types ≡ 0 → ⊥) → Held number (with_types held (held.types - types)) ≡ keeps types number held
  unfolding keeps
  some_left e = rw (← left_types, ne_eqb (held.types - types) 0 e) refl

module _ (bytes : List ℕ) (at number : ℕ) (held : Claim) (types : ℕ) (few : types ≤ 255) where
  lacking : lacks held.types types ≡ not (eqb (bit_and held.types types) types)
  lacking = lacks_and held.types types (omega arith)

  pub type_lacking : (bit_and held.types types ≡ types → ⊥) → LosesFrom bytes at number held types (Err TypeLacking) bytes
  unfolding loss_says says_by refusal_says refusal_number refusal_value values_in
  type_lacking h =
      let e : lacks held.types types ≡ true = lacking ∙ rw (ne_eqb (bit_and held.types types) types h) refl in
      record { answer = rw e refl; table_after = rw e refl }

  pub none_lacking : bit_and held.types types ≡ types → lacks held.types types ≡ false
  none_lacking h = lacking ∙ rw (eq-eqb (bit_and held.types types) types h) refl

  pub types_lost : bit_and held.types types ≡ types → {after : List ℕ} → after ≡ over at (slot_bytes (keeps types number held)) bytes
      → LosesFrom bytes at number held types (Ok tt) after
  unfolding loss_says says_by
  types_lost h e = let n = none_lacking h in record { answer = rw n refl; table_after = e ∙ rw n refl }

-- the slot at i
module _ (bytes : List ℕ) (i types : ℕ) (well : well_formed bytes ≡ true) (inside : i < count bytes) {slot : Slot}
    (read : slot ≡ slot_of (part (width * (i + 1)) width bytes)) where
  there : slot ≡ get_or (table_of bytes).slots i Free
  there = read ∙ sym (table_at bytes i inside)

  pub no_token : slot ≡ Free → Loses bytes i types (Err NoSuchToken) bytes
  unfolding slot_says left says_by refusal_says refusal_number refusal_value values_in
  no_token e = let f : get_or (table_of bytes).slots i Free ≡ Free = sym there ∙ e in record { answer = rw f refl; table_after = rw f refl }

  module _ {number : ℕ} {held : Claim} (e : slot ≡ Held number held) where
    pub token_small : Bytes bytes → held.types ≤ 255
    unfolding limit
    token_small all = types_small (limit (table_of bytes)) (table_of bytes).next number held (rw (← there, e) at (order_at (table_of bytes) (ordered bytes all well) i))

    pub token_loses : Bytes bytes → {r : Result (Unit {0}) Refusal} {after : List ℕ} → LosesFrom bytes (width * (i + 1)) number held types r after → Loses bytes i types r after
    unfolding slot_says loss_says loses left
    token_loses all {r} {after} l =
        let f : get_or (table_of bytes).slots i Free ≡ Held number held = sym there ∙ e in
        record { answer = l.answer ∙ rw f refl; table_after = l.table_after ∙ rw f (go (lacks held.types types) refl) }
      where
        new : Table
        new = put (table_of bytes) i (keeps types number held)

        long : length (bytes_of new) ≡ length bytes
        long = bytes_length new ∙ rw (length-set (table_of bytes).slots i (keeps types number held), table_length bytes) (sym (form_size bytes well).whole)

        go : (b : Bool) → lacks held.types types ≡ b
            → (if b then bytes else over (width * (i + 1)) (slot_bytes (keeps types number held)) bytes) ≡ left (loss_says held.types types) (bytes_of new) bytes
        go true q = rw q refl
        go false q = rw q
            (ap (over (width * (i + 1)) (slot_bytes (keeps types number held))) (sym (bytes_table bytes well all))
            ∙ put_bytes (table_of bytes) i (keeps types number held) (rw (table_length bytes) inside)
            ∙ sym (left_whole [] (bytes_of new) bytes long))

free_not : (host number : ℕ) → is_of host number Free ≡ true → ⊥
unfolding is_of
free_not host number q = differ (sym q)

says_held : (types n : ℕ) (held : Claim) → (if lacks (types_in (Held n held)) types then refused 37 [] else done []) ≡ slot_says types (Held n held)
unfolding types_in slot_says loss_says
says_held types n held = refl

-- the whole ladder
module _ (bytes : List ℕ) (host number types : ℕ) where
  refused_by : (refusal : Refusal) → says_of (return_says host number types) bytes ≡ refusal_says refusal → Returns bytes host number types (Err refusal) bytes
  refused_by refusal e =
      let p = refusing (return_says host number types) bytes (returned host number types) (λ none. []) refusal e in record { answer = p.0; table_after = p.1 }

  pub ill_formed : well_formed bytes ≡ false → Returns bytes host number types (Err NotWellFormed) bytes
  ill_formed ill = refused_by NotWellFormed (ill_refused (return_says host number types) bytes ill refl)

  module _ (well : well_formed bytes ≡ true) {b : Bool} (told : b ≡ unfit host types 255) where
    pub misshapen : b ≡ true → Returns bytes host number types (Err Malformed) bytes
    unfolding return_says limit refusal_says refusal_number refusal_value values_in
    misshapen bad = refused_by Malformed (says_well (return_says host number types) bytes well ∙ rw (← told, bad) refl)

    module _ (shaped : b ≡ false) where
      pub types_few : types ≤ 255
      unfolding unfit
      types_few = ltb-false 255 types (or_right (eqb host 0 || eqb types 0) (ltb 255 types) (sym told ∙ shaped))

      pub no_such_token : None ≡ position (is_of host number) (table_of bytes).slots → Returns bytes host number types (Err NoSuchToken) bytes
      unfolding return_says limit refusal_says refusal_number refusal_value values_in
      no_such_token e =
          refused_by NoSuchToken (says_well (return_says host number types) bytes well ∙ rw (← told, shaped, position_none (is_of host number) (table_of bytes).slots (sym e)) refl)

      module _ {i : ℕ} (found : Some i ≡ position (is_of host number) (table_of bytes).slots) where
        place : i ≡ place_of (is_of host number) (table_of bytes).slots
        place = (position_at (is_of host number) (table_of bytes).slots (sym found)).0

        pub inside : i < count bytes
        inside = rw table_length at (position_at (is_of host number) (table_of bytes).slots (sym found)).1

        pub loses_there : {r : Result (Unit {0}) Refusal} {after : List ℕ} → Loses bytes i types r after → Returns bytes host number types r after
        unfolding return_says limit returned token_in place_in
        loses_there {r} {after} l =
            let slot = get_or (table_of bytes).slots (place_of (is_of host number) (table_of bytes).slots) Free in
            let passes : is_of host number slot ≡ true = passes_there (is_of host number) (table_of bytes).slots Free (rw (table_length bytes, ← place) inside) in
            let e : says_of (return_says host number types) bytes ≡ slot_says types slot =
            says_well (return_says host number types) bytes well ∙ rw (← told, shaped, position_some (is_of host number) (table_of bytes).slots (sym found)) (held_says slot passes) in
            let at : ℕ → Slot = λ k. get_or (table_of bytes).slots k Free in
            record {
              answer = l.answer ∙ ap (λ (k : ℕ). slot_says types (at k)) place ∙ sym e;
              table_after = l.table_after ∙ ap (λ (k : ℕ). left (slot_says types (at k)) (bytes_of (put (table_of bytes) k (loses types (at k)))) bytes) place
                  ∙ sym (left_by (return_says host number types) bytes (returned host number types) e);
            }
          where
            held_says : (slot : Slot) → is_of host number slot ≡ true → (if lacks (types_in slot) types then refused 37 [] else done []) ≡ slot_says types slot
            held_says Free q = absurd (free_not host number q)
            held_says (Held n held) q = says_held types n held
