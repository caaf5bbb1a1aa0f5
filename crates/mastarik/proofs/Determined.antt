-- Two outcomes that meet a statement are equal. Assumes nothing.
use mathlib.Core.Path.{◌≡◌, sym, ◌∙◌, ap}
use mathlib.Core.List.{List}
use Prim.Native.Nat.{ℕ}
use Rattle.tokens.proofs.Determined.{widened_determined}
use Rattle.access.specs.Access.{Access}
use Rattle.desk.specs.Grant.{grant_says}
use Rattle.mastarik.specs.Lists.{Checks, GivesRights, Puts, Drops}
use Rattle.mastarik.specs.Tables.{Fills, Asks, Grants, GrantsWidest, Returns, DropsHost, Audits}
use Rattle.mastarik.specs.Types.{TellsNeeds}
use Rattle.mastarik.specs.Version.{TellsVersion}
use Rattle.exchange.specs.Answer.{answer_of}
use Rattle.exchange.specs.Given.{claim_of}
use Rattle.exchange.specs.declared.answer.Answer.{Answer}
use Rattle.exchange.specs.declared.given.Caller.{Caller}
use Rattle.exchange.specs.declared.given.Claim.{Claim}
use Rattle.exchange.specs.declared.given.Entry.{Entry}
use Rattle.exchange.specs.declared.given.File.{File}

module _ (r r' : Answer) where
  pub check_determined : (list : List ℕ) → Checks list r → Checks list r' → r ≡ r'
  check_determined list p q = p.answer ∙ sym q.answer

  pub rights_determined : (list groups : List ℕ) (caller : Caller) (file : File) → GivesRights list groups caller file r → GivesRights list groups caller file r' → r ≡ r'
  rights_determined list groups caller file p q = p.answer ∙ sym q.answer

  pub audit_determined : (bytes : List ℕ) → Audits bytes r → Audits bytes r' → r ≡ r'
  audit_determined bytes p q = p.answer ∙ sym q.answer

  pub needs_determined : (types dir : ℕ) → TellsNeeds types dir r → TellsNeeds types dir r' → r ≡ r'
  needs_determined types dir p q = p.answer ∙ sym q.answer

  module _ (after after' : List ℕ) where
    module _ (list : List ℕ) (entry : Entry) (out : List ℕ) where
      pub put_determined : Puts list entry out r after → Puts list entry out r' after' → (r ≡ r') × (after ≡ after')
      put_determined p q = (p.answer ∙ sym q.answer, p.out_after ∙ sym q.out_after)

      pub drop_determined : Drops list entry out r after → Drops list entry out r' after' → (r ≡ r') × (after ≡ after')
      drop_determined p q = (p.answer ∙ sym q.answer, p.out_after ∙ sym q.out_after)

    module _ (bytes : List ℕ) where
      pub fill_determined : Fills bytes r after → Fills bytes r' after' → (r ≡ r') × (after ≡ after')
      fill_determined p q = (p.answer ∙ sym q.answer, p.table_after ∙ sym q.table_after)

      pub ask_determined : (claim : Claim) (access : Access) (out : List ℕ) → Asks bytes claim access out r after → Asks bytes claim access out r' after' → (r ≡ r') × (after ≡ after')
      ask_determined claim access out p q = (p.answer ∙ sym q.answer, p.out_after ∙ sym q.out_after)

      pub grant_determined : (claim : Claim) (access : Access) → Grants bytes claim access r after → Grants bytes claim access r' after' → (r ≡ r') × (after ≡ after')
      grant_determined claim access p q = (p.answer ∙ sym q.answer, p.table_after ∙ sym q.table_after)

      pub grant_widest_determined : (claim : Claim) (access : Access) → GrantsWidest bytes claim access r after → GrantsWidest bytes claim access r' after'
          → (r ≡ r') × (after ≡ after')
      grant_widest_determined claim access p q =
          let w = widened_determined (grant_says (claim_of claim) access) bytes (claim_of claim) p.said q.said after after' p.outcome q.outcome in
          (p.answer ∙ ap answer_of w.0 ∙ sym q.answer, w.1)

      pub return_determined : (host number types : ℕ) → Returns bytes host number types r after → Returns bytes host number types r' after' → (r ≡ r') × (after ≡ after')
      return_determined host number types p q = (p.answer ∙ sym q.answer, p.table_after ∙ sym q.table_after)

      pub drop_host_determined : (host : ℕ) → DropsHost bytes host r after → DropsHost bytes host r' after' → (r ≡ r') × (after ≡ after')
      drop_host_determined host p q = (p.answer ∙ sym q.answer, p.table_after ∙ sym q.table_after)

pub version_determined : (r r' : ℕ) → TellsVersion r → TellsVersion r' → r ≡ r'
version_determined r r' p q = p.answer ∙ sym q.answer
