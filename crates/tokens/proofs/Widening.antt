-- A grant with the widest range, by what the code finds. Assumes nothing.
use Rattle.std.specs.Prelude.{Ok, Err}
use mathlib.Core.Path.{◌≡◌, refl, sym, ◌∙◌, ap, subst}
use mathlib.Core.Bool.{false}
use mathlib.Core.List.Memᴰ
use mathlib.Core.List.{List, [], ◌∷◌, Memᴰ}
use Prim.Native.Nat.{ℕ, ◌≤◌}
use borrow.Author.Tests.{eqb-true, not-false}
use lib.Dec.{eqb}
use Rattle.words.specs.Test.{any_of}
use Rattle.words.specs.Said.{done, is_done}
use Rattle.words.specs.Refusal.{refusal_says, says_by}
use Rattle.words.specs.declared.refusal.Refusal.{Refusal}
use Rattle.words.specs.Number.{Bytes}
use Rattle.words.proofs.Tests.{differ, Each, none_any}
use Rattle.words.proofs.Left.{left_whole}
use Rattle.claims.specs.Claim.{with_range}
use Rattle.claims.specs.Rule.{conflict}
use Rattle.claims.specs.declared.claim.Claim.{Claim}
use Rattle.claims.proofs.Ranges.{in_order}
use Rattle.table.specs.Table.{Table, limit, is_in_the_way}
use Rattle.table.specs.Layout.{table_of, bytes_of}
use Rattle.table.specs.Call.{says_of}
use Rattle.table.specs.declared.slot.Slot.{Slot}
use Rattle.table.specs.declared.slot.Slot.TheVariants.{Held}
use Rattle.table.proofs.Means.{InOrder, Ordered, ordered, token_shaped}
use Rattle.table.proofs.Calls.{left_by, left_refused}
use Rattle.widest.specs.Widest.{last_byte, Widest, widened, over, Ranges}
use Rattle.widest.specs.declared.range.Range.{Range}
use Rattle.widest.proofs.Largest.{Token, widened_widest}
use Rattle.tokens.specs.Grant.{grant_says, granted}
use Rattle.tokens.specs.Widest.{with_more, GrantsWidest}
use Rattle.tokens.specs.Scan.{Issues}
use Rattle.tokens.proofs.Kept.{Passed}
use Rattle.tokens.proofs.Issued.{done_formed, done_passed, granted_length}

-- what holds of each slot, and of each that is there
pub each_member : (P : Slot → Type 0) (slots : List Slot) → Each P slots → (slot : Slot) → Memᴰ slot slots → P slot
unfolding Each
each_member P [] e slot m = absurd (Memᴰ.not-nil m)
each_member P (s ∷ ss) e slot (Memᴰ.head p) = subst P (sym p) e.0
each_member P (s ∷ ss) e slot (Memᴰ.tail m) = each_member P ss e.1 slot m

module _ (claim : Claim) where
  harmless : (number : ℕ) (held : Claim) → is_in_the_way claim (Held number held) ≡ false → conflict held claim ≡ 0
  unfolding is_in_the_way
  harmless number held e = eqb-true (conflict held claim) 0 (not-false (eqb (conflict held claim) 0) e)

  pub with_nobody : (slots : List Slot) → any_of (is_in_the_way claim) slots ≡ false → (number : ℕ) (held : Claim) → Memᴰ (Held number held) slots → conflict held claim ≡ 0
  with_nobody slots e number held m =
      harmless number held (each_member (λ slot. is_in_the_way claim slot ≡ false) slots (none_any (is_in_the_way claim) slots e) (Held number held) m)

-- in a table in order, of a request that is not refused
module _ (t : Table) (order : InOrder t) (claim : Claim) (ends : claim.last ≤ last_byte) (p : Passed claim t) where
  in_range : (held : Claim) → Token t.slots held → (held.first ≤ held.last) × (conflict held claim ≡ 0)
  in_range held m = (
    in_order held (limit t) (token_shaped (limit t) t.next m.0 held (each_member (Ordered (limit t) t.next) t.slots order.slots (Held m.0 held) m.1)),
    with_nobody claim t.slots p.harmless m.0 held m.1,
  )

  pub passed_widest : Widest t claim (widened claim t).first (widened claim t).last
  passed_widest = widened_widest t claim (in_order claim (limit t) p.shaped) ends in_range

-- refused or not, as grant is
module _ (bytes : List ℕ) (claim : Claim) where
  pub refused_so : {refusal : Refusal} → says_of (grant_says claim) bytes ≡ refusal_says refusal → GrantsWidest bytes claim (Err refusal) bytes
  unfolding says_by refusal_says with_more is_done
  refused_so e = record {
    outcome = record {
      first = 0;
      last = 0;
      widest = λ d. absurd (differ (sym d ∙ rw e refl));
      answer = rw e refl;
      table_after = sym (left_refused (grant_says claim) bytes (granted (with_range claim 0 0)) e);
    };
  }

  pub widest_so : says_of (grant_says claim) bytes ≡ done ((table_of bytes).next ∷ []) → Bytes bytes → claim.last ≤ last_byte → (range : Range) → over claim range ≡ widened claim (table_of bytes)
      → {wide : Claim} → Ranges claim range wide → {r : ℕ} {after : List ℕ} → Issues bytes wide r after
      → GrantsWidest bytes claim (Ok (record { number = r; range = range })) after
  unfolding says_by with_more
  widest_so e all ends range found ranged i =
      let well = done_formed bytes claim e in
      let t = table_of bytes in
      record {
        outcome = record {
          first = range.first;
          last = range.last;
          widest = λ d. subst (λ (c : Claim). Widest t claim c.first c.last) (sym found) (passed_widest t (ordered bytes all well) claim ends (done_passed bytes claim e));
          answer = rw (i.answer, e) refl;
          table_after = i.table_after
              ∙ ap (λ (c : Claim). bytes_of (granted c t)) ranged.answer
              ∙ sym (left_by (grant_says claim) bytes (granted (over claim range)) e
              ∙ left_whole (t.next ∷ []) (bytes_of (granted (over claim range) t)) bytes (granted_length bytes (over claim range) well));
        };
      }
