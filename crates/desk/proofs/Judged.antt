-- A request that is permitted goes on to the call's own; one that is not is refused after 30 and 31. Assumes nothing.
use Rattle.std.specs.Prelude.{if◌then◌else◌, Result, Ok, Err}
use mathlib.Core.Path.{◌≡◌, refl, sym, ◌∙◌}
use mathlib.Core.Bool.{Bool, true, false}
use mathlib.Core.List.{List, [], ◌∷◌}
use Prim.Native.Nat.{ℕ}
use Rattle.words.specs.Said.{Said, done, refused, is_done, and_then}
use Rattle.words.proofs.Tests.{differ}
use Rattle.words.proofs.Left.{left_kept}
use Rattle.claims.specs.Claim.{malformed}
use Rattle.claims.specs.declared.claim.Claim.{Claim}
use Rattle.table.specs.Table.{Table, limit}
use Rattle.table.specs.Layout.{table_of}
use Rattle.table.specs.Form.{well_formed}
use Rattle.words.specs.Refusal.{says_by, plain_says, refusal_says, refusal_number, refusal_value, values_in}
use Rattle.words.specs.declared.refusal.Refusal.{Refusal}
use Rattle.words.specs.declared.refusal.Refusal.TheVariants.{NotWellFormed, Malformed}
use Rattle.table.specs.Call.{says_of, left_of}
use Rattle.table.proofs.Calls.{says_ill, says_well}
use Rattle.tokens.specs.Grant.{request_says, serve_says, grant_says as plainGrantSays, Grants as GrantsPlain}
use Rattle.tokens.specs.Widest.{with_more, GrantsWidest as GrantsWidestPlain}
use Rattle.tokens.specs.declared.granting.Granted.{Granted}
use Rattle.tokens.specs.Ask.{list_says, ask_says as plainAskSays, Asks as AsksPlain}
use Rattle.access.specs.Access.{Access, access_says}
use Rattle.desk.specs.Order.{judged_says}
use Rattle.desk.specs.Grant.{grant_says, Grants}
use Rattle.desk.specs.Widest.{GrantsWidest}
use Rattle.desk.specs.Ask.{ask_says, Asks}
use Rattle.desk.specs.Verdict.{Refuses}

-- whatever comes first, a verdict that is done lets the call's own follow, and one that is not stands
follows : (first verdict own : Said) → is_done verdict ≡ true → and_then first (and_then verdict own) ≡ and_then first own
unfolding is_done and_then
follows first (done values) own e = refl
follows first (refused number values) own e = absurd (differ (sym e))

stands : (first verdict own : Said) → is_done verdict ≡ false → and_then first (and_then verdict own) ≡ and_then first verdict
unfolding is_done and_then
stands first (done values) own e = absurd (differ e)
stands first (refused number values) own e = refl

refuses : (first verdict : Said) → is_done verdict ≡ false → is_done (and_then first verdict) ≡ false
unfolding is_done and_then
refuses (done values) verdict e = e
refuses (refused number values) verdict e = refl

-- what is refused gets no values more
no_more : (more : List ℕ) (said : Said) → is_done said ≡ false → with_more more said ≡ said
unfolding is_done with_more
no_more more (done values) e = absurd (differ e)
no_more more (refused number values) e = refl

module _ (bytes : List ℕ) (claim : Claim) where
  module _ (verdict : Said) (own : Table → Said) where
    permitted_says : is_done verdict ≡ true → says_of (judged_says claim verdict own) bytes ≡ says_of (λ t. and_then (request_says claim t) (own t)) bytes
    unfolding says_of judged_says
    permitted_says e = rw (follows (request_says claim (table_of bytes)) verdict (own (table_of bytes)) e) refl

    refused_says : is_done verdict ≡ false → says_of (judged_says claim verdict own) bytes ≡ says_of (λ t. and_then (request_says claim t) verdict) bytes
    unfolding says_of judged_says
    refused_says e = rw (stands (request_says claim (table_of bytes)) verdict (own (table_of bytes)) e) refl

    is_refused : is_done verdict ≡ false → is_done (says_of (judged_says claim verdict own) bytes) ≡ false
    unfolding says_of is_done
    is_refused e = rw (refused_says e) (go (well_formed bytes))
      where
        go : (b : Bool) → is_done (if b then and_then (request_says claim (table_of bytes)) verdict else refused 30 []) ≡ false
        go true = refuses (request_says claim (table_of bytes)) verdict e
        go false = refl

  -- 30, 31 and then the verdict
  module _ (verdict : Refusal) where
    module _ {formed : Bool} (told : formed ≡ well_formed bytes) where
      pub ill_formed : formed ≡ false → Refuses bytes claim verdict NotWellFormed
      unfolding refusal_says refusal_number refusal_value values_in
      ill_formed e = record { answer = sym (says_ill (λ t. and_then (request_says claim t) (refusal_says verdict)) bytes (sym told ∙ e)) }

      module _ (well : formed ≡ true) {bad : Bool} (shaped : bad ≡ malformed claim 255) where
        judged : (b : Bool) → bad ≡ b → says_of (λ t. and_then (request_says claim t) (refusal_says verdict)) bytes ≡ and_then (if b then refused 31 [] else done []) (refusal_says verdict)
        unfolding request_says limit
        judged b e = says_well (λ t. and_then (request_says claim t) (refusal_says verdict)) bytes (sym told ∙ well) ∙ rw (sym shaped ∙ e) refl

        pub misshapen : bad ≡ true → Refuses bytes claim verdict Malformed
        unfolding refusal_says refusal_number refusal_value values_in and_then
        misshapen e = record { answer = sym (judged true e) }

        pub by_verdict : bad ≡ false → Refuses bytes claim verdict verdict
        unfolding and_then
        by_verdict e = record { answer = sym (judged false e) }

  module _ (access : Access) {verdict : Result (Unit {0}) Refusal} (judge : plain_says verdict ≡ access_says access claim.types) where
    module _ {none : Unit {0}} (permitted : verdict ≡ Ok none) where
      fine : is_done (access_says access claim.types) ≡ true
      unfolding is_done says_by
      fine = rw (← judge, permitted) refl

      pub granting : {r : Result ℕ Refusal} {after : List ℕ} → GrantsPlain bytes claim r after → Grants bytes claim access r after
      unfolding grant_says plainGrantSays left_of
      granting g =
          let e = permitted_says (access_says access claim.types) (serve_says claim) fine in
          record { answer = g.answer ∙ sym e; table_after = g.table_after ∙ rw e refl }

      pub widening : {r : Result Granted Refusal} {after : List ℕ} → GrantsWidestPlain bytes claim r after → GrantsWidest bytes claim access r after
      unfolding grant_says plainGrantSays left_of
      widening g =
          let e = permitted_says (access_says access claim.types) (serve_says claim) fine in
          let w = g.outcome in
          record {
            outcome = record {
              first = w.first;
              last = w.last;
              widest = λ d. w.widest (rw (← e) d);
              answer = w.answer ∙ rw e refl;
              table_after = w.table_after ∙ rw e refl;
            };
          }

      pub asking : {out after : List ℕ} {r : Result ℕ Refusal} → AsksPlain bytes claim out r after → Asks bytes claim access out r after
      unfolding ask_says plainAskSays
      asking {out} a =
          let e = permitted_says (access_says access claim.types) (list_says claim out) fine in
          record { answer = a.answer ∙ sym e; out_after = a.out_after ∙ rw e refl }

    module _ {why : Refusal} (denied : verdict ≡ Err why) {r : Refusal} (first : Refuses bytes claim why r) where
      denial : refusal_says why ≡ access_says access claim.types
      unfolding says_by
      denial = (rw denied at judge)

      wrong : is_done (access_says access claim.types) ≡ false
      unfolding is_done refusal_says
      wrong = rw (← denial) refl

      says : (own : Table → Said) → refusal_says r ≡ says_of (judged_says claim (access_says access claim.types) own) bytes
      says own = first.answer ∙ rw denial (sym (refused_says (access_says access claim.types) own wrong))

      pub not_granting : Grants bytes claim access (Err r) bytes
      unfolding grant_says left_of says_by
      not_granting = record {
        answer = says (serve_says claim);
        table_after = sym (left_kept (says_of (grant_says claim access) bytes) _ bytes (is_refused (access_says access claim.types) (serve_says claim) wrong));
      }

      pub not_widening : GrantsWidest bytes claim access (Err r) bytes
      unfolding grant_says left_of says_by
      not_widening =
          let no = is_refused (access_says access claim.types) (serve_says claim) wrong in
          record {
            outcome = record {
              first = 0;
              last = 0;
              widest = λ d. absurd (differ (sym d ∙ no));
              answer = says (serve_says claim) ∙ sym (no_more (0 ∷ 0 ∷ []) (says_of (grant_says claim access) bytes) no);
              table_after = sym (left_kept (says_of (grant_says claim access) bytes) _ bytes no);
            };
          }

      pub not_asking : {out : List ℕ} → Asks bytes claim access out (Err r) out
      unfolding ask_says says_by
      not_asking {out} = record {
        answer = says (list_says claim out);
        out_after = sym (left_kept (says_of (ask_says claim access out) bytes) _ out (is_refused (access_says access claim.types) (list_says claim out) wrong));
      }
