-- Granting, by the tests that the code makes. Assumes nothing.
use Rattle.std.specs.Prelude.{None, Some, Ok, Err, position}
use mathlib.Core.Path.{◌≡◌, refl, sym, ◌∙◌, ap}
use mathlib.Core.Bool.{Bool, true, false, not}
use mathlib.Core.List.{List, [], ◌∷◌}
use mathlib.Core.Logic.{◌≢◌}
use Prim.Native.Nat.{ℕ, ◌+◌, ◌*◌, ◌≤◌, ◌<◌}
use native.Mathlib.Omega.{arith}
use borrow.Author.Tests.{eq-eqb, ne_eqb}
use lib.Dec.{eqb}
use lib.ListN.{length, length-set}
use Rattle.words.specs.Test.{any_of, place_of}
use Rattle.words.specs.Said.{done, and_then}
use Rattle.words.specs.Refusal.{refusal_number, refusal_value, values_in, refusal_says, says_by}
use Rattle.words.specs.declared.refusal.Refusal.{Refusal}
use Rattle.words.specs.declared.refusal.Refusal.TheVariants.{Malformed, Conflict, NoFreeSlot, NumbersSpent}
use Rattle.words.specs.Number.{Bytes, number_at}
use Rattle.words.specs.Writing.{digits, over, written}
use Rattle.words.proofs.Tests.{any_those}
use Rattle.words.proofs.Written.{digits_length, written_all}
use Rattle.words.proofs.Left.{left_whole, not_done}
use Rattle.claims.specs.Claim.{malformed}
use Rattle.claims.specs.declared.claim.Claim.{Claim}
use Rattle.table.specs.Table.{limit, put, is_free, is_in_the_way}
use Rattle.table.specs.Layout.{width, slot_bytes, next_in, table_of, bytes_of}
use Rattle.table.specs.Form.{well_formed}
use Rattle.table.specs.Call.{says_of}
use Rattle.table.specs.declared.slot.Slot.TheVariants.{Held}
use Rattle.table.proofs.Cuts.{table_length}
use Rattle.table.proofs.Places.{position_at, position_some, position_none}
use Rattle.table.proofs.Tables.{form_size, bytes_table, put_bytes, next_bytes, bytes_length}
use Rattle.table.proofs.Calls.{says_ill, says_well, refusing, left_by}
use Rattle.tokens.specs.Grant.{last_number, room_says, request_says, serve_says, grant_says, granted, Grants}
use Rattle.surveys.specs.Survey.{Saw}
use Rattle.tokens.specs.Scan.{Checks, HasRoom, Issues}
use Rattle.surveys.specs.declared.scan.Seen.{Seen}
use Rattle.tokens.proofs.Kept.{Passed, passed}

-- the refusals, from 31 to 34
module _ (bytes : List ℕ) (claim : Claim) {seen : Seen} (look : (well_formed bytes ≡ true) × Saw (table_of bytes).slots claim seen) {b : Bool} (told : b ≡ malformed claim 255) where
  says : says_of (grant_says claim) bytes ≡ grant_says claim (table_of bytes)
  says = says_well (grant_says claim) bytes look.0

  pub misshapen : b ≡ true → Checks bytes claim (Err Malformed)
  unfolding grant_says request_says limit and_then refusal_says refusal_number refusal_value values_in
  misshapen bad = record { ok = tt; err = says ∙ rw (← told, bad) refl }

  module _ (shaped : b ≡ false) where
    some_way : any_of (is_in_the_way claim) (table_of bytes).slots ≡ not (eqb seen.conflicts 0)
    some_way = any_those (is_in_the_way claim) (table_of bytes).slots ∙ rw (← look.1.conflicts) refl

    pub in_conflict : (seen.conflicts ≡ 0 → ⊥) → Checks bytes claim (Err Conflict)
    unfolding grant_says request_says serve_says limit and_then refusal_says refusal_number refusal_value values_in
    in_conflict some = record { ok = tt; err = says ∙ rw (← told, shaped, some_way, ne_eqb seen.conflicts 0 some) refl }

    module _ (none : seen.conflicts ≡ 0) where
      by_room : says_of (grant_says claim) bytes ≡ room_says (table_of bytes)
      unfolding grant_says request_says serve_says limit and_then
      by_room = says ∙ rw (← told, shaped, some_way, eq-eqb seen.conflicts 0 none) refl

      pub no_room : seen.free ≡ None → Checks bytes claim (Err NoFreeSlot)
      unfolding room_says refusal_says refusal_number refusal_value values_in
      no_room e = record { ok = tt; err = by_room ∙ rw (position_none is_free (table_of bytes).slots (sym look.1.free ∙ e)) refl }

      module _ {free : ℕ} (e : seen.free ≡ Some free) {next : ℕ} (read : next ≡ number_at 8 33 bytes) where
        found : position is_free (table_of bytes).slots ≡ Some free
        found = sym look.1.free ∙ e

        pub numbers_spent : next ≡ 18446744073709551615 → Checks bytes claim (Err NumbersSpent)
        unfolding room_says last_number table_of next_in refusal_says refusal_number refusal_value values_in
        numbers_spent z = record {
          ok = tt;
          err = by_room ∙ rw (position_some is_free (table_of bytes).slots found, eq-eqb (number_at 8 33 bytes) 18446744073709551615 (sym read ∙ z)) refl;
        }

        pub has_room : (next ≡ 18446744073709551615 → ⊥) → Checks bytes claim (Ok free)
        unfolding room_says last_number table_of next_in
        has_room more =
            let p = position_at is_free (table_of bytes).slots found in
            let unspent : number_at 8 33 bytes ≢ 18446744073709551615 = λ z. more (read ∙ z) in
            record {
              ok = (
                record { formed = look.0; lowest = p.0; inside = rw table_length at p.1; unspent = unspent },
                by_room ∙ rw (position_some is_free (table_of bytes).slots found, ne_eqb (number_at 8 33 bytes) 18446744073709551615 unspent) refl,
              );
              err = tt;
            }

-- a grant that is done: of a well-formed table, with room
module _ (bytes : List ℕ) (claim : Claim) {values : List ℕ} (e : says_of (grant_says claim) bytes ≡ done values) where
  pub done_formed : well_formed bytes ≡ true
  done_formed = go (well_formed bytes) refl
    where
      go : (b : Bool) → well_formed bytes ≡ b → b ≡ true
      go true p = refl
      go false p = absurd (not_done 30 [] values (sym (says_ill (grant_says claim) bytes p) ∙ e))

  pub done_passed : Passed claim (table_of bytes)
  done_passed = passed claim (table_of bytes) values (sym (says_well (grant_says claim) bytes done_formed) ∙ e)

-- a number is left
pub not_last : (bytes : List ℕ) {free : ℕ} → HasRoom bytes free → {next : ℕ} → next ≡ number_at 8 33 bytes → next ≢ 18446744073709551615
unfolding last_number table_of next_in
not_last bytes room read e = room.unspent (sym read ∙ e)

-- the new token
module _ (bytes : List ℕ) (claim : Claim) where
  pub granted_length : well_formed bytes ≡ true → length (bytes_of (granted claim (table_of bytes))) ≡ length bytes
  unfolding granted
  granted_length well =
      bytes_length (granted claim (table_of bytes))
      ∙ rw (length-set (table_of bytes).slots (place_of is_free (table_of bytes).slots) (Held (table_of bytes).next claim), table_length bytes) (sym (form_size bytes well).whole)

  pub issued : {free : ℕ} → HasRoom bytes free → Bytes bytes → {next : ℕ} → next ≡ number_at 8 33 bytes → {t u : List ℕ} → t ≡ over (width * (free + 1)) (slot_bytes (Held next claim)) bytes
      → u ≡ written 33 (digits 8 (next + 1)) t → Issues bytes claim next u
  unfolding granted table_of next_in
  issued {free} room all {next} read {t} {u} p q =
      let slot = Held next claim in
      let old = table_of bytes in
      let there : free < length old.slots = rw (table_length bytes) room.inside in
      let one : t ≡ bytes_of (put old free slot) = p ∙ ap (over (width * (free + 1)) (slot_bytes slot)) (sym (bytes_table bytes room.formed all)) ∙ put_bytes old free slot there in
      let wide : 33 + length (digits 8 (next + 1)) ≤ length t = rw (one, bytes_length (put old free slot), digits_length 8 (next + 1)) (omega arith) in
      let two : over 33 (digits 8 (next + 1)) t ≡ bytes_of (record { slots = (put old free slot).slots; next = next + 1 }) = rw one (next_bytes (put old free slot) (next + 1)) in
      record { answer = read; table_after = q ∙ written_all 33 (digits 8 (next + 1)) t wide ∙ two ∙ rw (room.lowest, read) refl }

  -- a grant, refused or not
  pub refused_so : {refusal : Refusal} → says_of (grant_says claim) bytes ≡ refusal_says refusal → Grants bytes claim (Err refusal) bytes
  refused_so {refusal} e = let p = refusing (grant_says claim) bytes (granted claim) (λ n. n ∷ []) refusal e in record { answer = p.0; table_after = p.1 }

  pub granted_so : says_of (grant_says claim) bytes ≡ done ((table_of bytes).next ∷ []) → {r : ℕ} {after : List ℕ} → Issues bytes claim r after → Grants bytes claim (Ok r) after
  unfolding says_by
  granted_so e {r} i = record {
    answer = ap (λ (n : ℕ). done (n ∷ [])) i.answer ∙ sym e;
    table_after = i.table_after
        ∙ sym (left_by (grant_says claim) bytes (granted claim) e ∙ left_whole ((table_of bytes).next ∷ []) (bytes_of (granted claim (table_of bytes))) bytes (granted_length (done_formed bytes claim e)));
  }
