-- Asking, by the tests that the code makes. Assumes nothing.
use mathlib.Core.Path.{◌≡◌, refl, sym, ◌∙◌, ap}
use mathlib.Core.Bool.{Bool, true, false}
use mathlib.Core.List.{List, [], ◌∷◌}
use Prim.Native.Nat.{ℕ, ◌*◌, ◌≤◌, ◌<◌}
use native.Mathlib.Omega.{arith}
use borrow.Author.Tests.{lt-ltb, le-ltb}
use lib.ListN.{length}
use Rattle.words.specs.Said.{done, and_then, left}
use Rattle.std.specs.Prelude.{Ok, Err}
use Rattle.words.specs.Refusal.{refusal_number, refusal_value, values_in, refusal_says, says_by}
use Rattle.words.specs.declared.refusal.Refusal.{Refusal}
use Rattle.words.specs.declared.refusal.Refusal.TheVariants.{Malformed, ListTooShort}
use Rattle.words.specs.Writing.{over}
use Rattle.words.proofs.Tests.{those_few}
use Rattle.words.proofs.Written.{over_start}
use Rattle.claims.specs.Claim.{malformed}
use Rattle.claims.specs.declared.claim.Claim.{Claim}
use Rattle.table.specs.Table.{limit, is_in_the_way}
use Rattle.table.specs.Layout.{table_of}
use Rattle.table.specs.Form.{well_formed}
use Rattle.table.specs.Call.{says_of}
use Rattle.table.proofs.Cuts.{table_length}
use Rattle.table.proofs.Tables.{form_size}
use Rattle.table.proofs.Calls.{says_well}
use Rattle.tokens.specs.Grant.{request_says}
use Rattle.tokens.specs.Ask.{in_the_way, list_for, list_says, ask_says, Asks}
use Rattle.surveys.specs.Survey.{Saw}
use Rattle.surveys.specs.declared.scan.Seen.{Seen}
use Rattle.tokens.proofs.Listed.{list_length}

module _ (bytes : List ℕ) (claim : Claim) (out : List ℕ) where
  pub refused_so : {refusal : Refusal} → says_of (ask_says claim out) bytes ≡ refusal_says refusal → Asks bytes claim out (Err refusal) out
  unfolding left says_by refusal_says
  refused_so e = record { answer = sym e; out_after = rw e refl }

  module _ (well : well_formed bytes ≡ true) {b : Bool} (told : b ≡ malformed claim 255) where
    pub misshapen : b ≡ true → Asks bytes claim out (Err Malformed) out
    unfolding ask_says request_says limit and_then refusal_says refusal_number refusal_value values_in
    misshapen bad = refused_so (says_well (ask_says claim out) bytes well ∙ rw (← told, bad) refl)

    module _ (shaped : b ≡ false) {seen : Seen} (saw : Saw (table_of bytes).slots claim seen) where
      pub few_entries : seen.conflicts ≤ 1024
      few_entries =
          omega (arith, saw.conflicts, those_few (is_in_the_way claim) (table_of bytes).slots, table_length bytes, (form_size bytes well).few)

      pub list_end : 13 * seen.conflicts ≡ length (list_for claim (table_of bytes))
      unfolding in_the_way
      list_end = ap (λ (n : ℕ). 13 * n) saw.conflicts ∙ sym (list_length claim (table_of bytes))

      own : says_of (ask_says claim out) bytes ≡ list_says claim out (table_of bytes)
      unfolding ask_says request_says limit and_then
      own = says_well (ask_says claim out) bytes well ∙ rw (← told, shaped) refl

      pub too_short : length out < 13 * seen.conflicts → Asks bytes claim out (Err (ListTooShort seen.conflicts)) out
      unfolding list_says in_the_way refusal_says refusal_number refusal_value values_in
      too_short h =
          refused_so (own ∙ rw (lt-ltb (length out) (length (list_for claim (table_of bytes))) (rw (← list_end) h), ← saw.conflicts) refl)

      pub all_listed : 13 * seen.conflicts ≤ length out → {after : List ℕ} → after ≡ over 0 (list_for claim (table_of bytes)) out
          → Asks bytes claim out (Ok seen.conflicts) after
      unfolding says_by list_says in_the_way left
      all_listed h e =
          let said : says_of (ask_says claim out) bytes ≡ done (seen.conflicts ∷ []) =
          own ∙ rw (le-ltb (length out) (length (list_for claim (table_of bytes))) (rw (← list_end) h), ← saw.conflicts) refl in
          record { answer = sym said; out_after = e ∙ over_start (list_for claim (table_of bytes)) out ∙ rw said refl }
