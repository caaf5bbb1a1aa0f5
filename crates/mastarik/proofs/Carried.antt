-- What a call says of what it was given, carried over to C. Assumes nothing.
use Rattle.std.specs.Prelude.{Result}
use mathlib.Core.Path.{◌≡◌, refl, ap, subst, ◌∙◌}
use mathlib.Core.Bool.{Bool, not}
use mathlib.Core.List.{List, [], ◌∷◌}
use Prim.Native.Nat.{ℕ}
use lib.Dec.{eqb}
use Rattle.words.specs.Said.{done}
use Rattle.words.specs.declared.refusal.Refusal.{Refusal}
use Rattle.evaluate.specs.Evaluation.{Checks as ChecksList}
use Rattle.evaluate.specs.declared.evaluation.Found.{Found}
use Rattle.rights.specs.Deciding.{decided, Finds}
use Rattle.rights.specs.declared.access.Access.{Access as TheAccess}
use Rattle.entry.specs.declared.entries.Entry.{Entry as TheEntry}
use Rattle.edit.specs.Editing.{Puts as PutsEntry, Drops as DropsEntry}
use Rattle.claims.specs.declared.claim.Claim.{Claim as TheClaim}
use Rattle.table.specs.Fill.{Fills as FillsTable}
use Rattle.tokens.specs.Widest.{widest_says}
use Rattle.tokens.specs.declared.granting.Granted.{Granted}
use Rattle.returns.specs.Return.{Returns as ReturnsTypes}
use Rattle.returns.specs.DropHost.{Drops as FreesHost}
use Rattle.audit.specs.Audit.{Audits as AuditsTable}
use Rattle.access.specs.Access.{access_in}
use Rattle.access.specs.Needs.{Needs}
use Rattle.desk.specs.Grant.{Grants as GrantsToken}
use Rattle.desk.specs.Widest.{GrantsWidest as GrantsWidestToken}
use Rattle.desk.specs.Ask.{Asks as AsksTable}
use Rattle.exchange.specs.Meaning.{Means}
use Rattle.exchange.specs.Answer.{answer_for, answer_of, answered, truth_says}
use Rattle.exchange.specs.Given.{entry_of, claim_of, Lends}
use Rattle.exchange.specs.declared.answer.Answer.{Answer}
use Rattle.exchange.specs.declared.given.Caller.{Caller}
use Rattle.exchange.specs.declared.given.Claim.{Claim}
use Rattle.exchange.specs.declared.given.Entry.{Entry}
use Rattle.exchange.specs.declared.given.File.{File}
use Rattle.exchange.proofs.Answered.{told, told_found}
use Rattle.mastarik.specs.Lists.{Checks, decided_for, GivesRights, Puts, Drops}
use Rattle.mastarik.specs.Tables.{access_for, Fills, Asks, Grants, GrantsWidest, Returns, DropsHost, Audits}
use Rattle.mastarik.specs.Types.{TellsNeeds}

-- what is told of nothing more, of a number or a count, of a number and a range
abbrev pub TellsDone : Result (Unit {0}) Refusal → Answer → Type 0
TellsDone result r = Means (answered (λ none. answer_of (done [])) result) r

abbrev pub TellsNumber : Result ℕ Refusal → Answer → Type 0
TellsNumber result r = Means (answered (λ n. answer_of (done (n ∷ []))) result) r

abbrev pub TellsRange : Result Granted Refusal → Answer → Type 0
TellsRange result r = Means (answered (λ g. answer_of (done (g.number ∷ g.range.first ∷ g.range.last ∷ []))) result) r

module _ {r : Answer} where
  pub checks : {list : List ℕ} {result : Result (Unit {0}) Refusal} → TellsDone result r → ChecksList list result → Checks list r
  checks {result = result} said p = record { answer = told (λ none. []) result said p.answer }

  pub audits : {bytes : List ℕ} {truth : Bool} → Means (answer_of (truth_says truth)) r → AuditsTable bytes truth → Audits bytes r
  audits said p = record { answer = said.answer ∙ ap (λ t. answer_of (truth_says t)) p.answer }

  pub tells_needs : {types dir needs : ℕ} → Means (answer_of (done (needs ∷ []))) r → Needs types (not (eqb dir 0)) needs → TellsNeeds types dir r
  tells_needs said p = record { answer = said.answer ∙ ap (λ n. answer_of (done (n ∷ []))) p.answer }

  module _ {list : List ℕ} {entry : Entry} {e : TheEntry} (given : Means (entry_of entry) e) {out after : List ℕ} {result : Result ℕ Refusal} (said : TellsNumber result r) where
    pub puts : PutsEntry list e out result after → Puts list entry out r after
    puts p = go (subst (λ x. PutsEntry list x out result after) given.answer p)
      where
        go : PutsEntry list (entry_of entry) out result after → Puts list entry out r after
        go q = record { answer = told (λ n. n ∷ []) result said q.answer; out_after = q.out_after }

    pub drops : DropsEntry list e out result after → Drops list entry out r after
    drops p = go (subst (λ x. DropsEntry list x out result after) given.answer p)
      where
        go : DropsEntry list (entry_of entry) out result after → Drops list entry out r after
        go q = record { answer = told (λ n. n ∷ []) result said q.answer; out_after = q.out_after }

  module _ {bytes after : List ℕ} where
    pub fills : {result : Result (Unit {0}) Refusal} → TellsDone result r → FillsTable bytes result after → Fills bytes r after
    fills {result = result} said p = record { answer = told (λ none. []) result said p.answer; table_after = p.table_after }

    pub returns : {host number types : ℕ} {result : Result (Unit {0}) Refusal} → TellsDone result r → ReturnsTypes bytes host number types result after
        → Returns bytes host number types r after
    returns {result = result} said p = record { answer = told (λ none. []) result said p.answer; table_after = p.table_after }

    pub frees : {host : ℕ} {result : Result ℕ Refusal} → TellsNumber result r → FreesHost bytes host result after → DropsHost bytes host r after
    frees {result = result} said p = record { answer = told (λ n. n ∷ []) result said p.answer; table_after = p.table_after }

-- the caller, the file and its guard
module _ {list groups : List ℕ} {caller : Caller} {file : File} {access : TheAccess} (lent : Lends list groups caller file access) where
  judged_by : access_in access ≡ access_for list groups caller file
  unfolding access_for
  judged_by = rw (lent.list_lent, lent.groups_lent, lent.caller_meant, lent.file_meant, lent.guard_meant) refl

  module _ {r : Answer} where
    pub gives : {result : Result Found Refusal} → Means (answered (λ f. answer_for (done (f.rights ∷ [])) f.start f.size) result) r
        → Finds (decided access.list.now access.groups.now access.caller access.file access.guard) result → GivesRights list groups caller file r
    unfolding decided_for
    gives {result = result} said p = record { answer = told_found result said ∙ rw (p.answer, lent.list_lent, lent.groups_lent, lent.caller_meant, lent.file_meant, lent.guard_meant) refl }

    module _ {bytes : List ℕ} {claim : Claim} {t : TheClaim} (given : Means (claim_of claim) t) {after : List ℕ} where
      pub asks : {out : List ℕ} {result : Result ℕ Refusal} → TellsNumber result r → AsksTable bytes t (access_in access) out result after
          → Asks bytes claim (access_for list groups caller file) out r after
      asks {out = out} {result = result} said p = go (subst (λ x. AsksTable bytes x (access_for list groups caller file) out result after) given.answer (subst (λ x. AsksTable bytes t x out result after) judged_by p))
        where
          go : AsksTable bytes (claim_of claim) (access_for list groups caller file) out result after → Asks bytes claim (access_for list groups caller file) out r after
          go q = record { answer = told (λ n. n ∷ []) result said q.answer; out_after = q.out_after }

      pub grants : {result : Result ℕ Refusal} → TellsNumber result r → GrantsToken bytes t (access_in access) result after → Grants bytes claim (access_for list groups caller file) r after
      grants {result = result} said p = go (subst (λ x. GrantsToken bytes x (access_for list groups caller file) result after) given.answer (subst (λ x. GrantsToken bytes t x result after) judged_by p))
        where
          go : GrantsToken bytes (claim_of claim) (access_for list groups caller file) result after → Grants bytes claim (access_for list groups caller file) r after
          go q = record { answer = told (λ n. n ∷ []) result said q.answer; table_after = q.table_after }

      pub grants_widest : {result : Result Granted Refusal} → TellsRange result r → GrantsWidestToken bytes t (access_in access) result after
          → GrantsWidest bytes claim (access_for list groups caller file) r after
      grants_widest {result = result} said p =
          go (subst (λ x. GrantsWidestToken bytes x (access_for list groups caller file) result after) given.answer (subst (λ x. GrantsWidestToken bytes t x result after) judged_by p))
        where
          go : GrantsWidestToken bytes (claim_of claim) (access_for list groups caller file) result after → GrantsWidest bytes claim (access_for list groups caller file) r after
          go q = record { said = widest_says result; answer = told (λ (g : Granted). g.number ∷ g.range.first ∷ g.range.last ∷ []) result said refl; outcome = q.outcome }
