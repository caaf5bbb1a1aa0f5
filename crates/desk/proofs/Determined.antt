-- Two outcomes that meet a statement are equal. Assumes nothing.
use mathlib.Core.Path.{◌≡◌, refl, sym, ◌∙◌}
use mathlib.Core.List.{List}
use Prim.Native.Nat.{ℕ}
use Rattle.claims.specs.declared.claim.Claim.{Claim}
use Rattle.std.specs.Prelude.{Result}
use Rattle.words.specs.declared.refusal.Refusal.{Refusal}
use Rattle.words.proofs.Refusals.{same_number}
use Rattle.tokens.specs.Widest.{widest_says}
use Rattle.tokens.specs.declared.granting.Granted.{Granted}
use Rattle.tokens.proofs.Determined.{widened_determined, same_widest}
use Rattle.access.specs.Access.{Access}
use Rattle.desk.specs.Grant.{grant_says, Grants}
use Rattle.desk.specs.Widest.{GrantsWidest}
use Rattle.desk.specs.Ask.{Asks}

module _ (bytes : List ℕ) (claim : Claim) (access : Access) where
  pub grant_determined : (r r' : Result ℕ Refusal) (after after' : List ℕ) → Grants bytes claim access r after → Grants bytes claim access r' after' → (r ≡ r') × (after ≡ after')
  grant_determined r r' after after' p q = (same_number r r' p.answer q.answer, p.table_after ∙ sym q.table_after)

  pub grant_widest_determined : (r r' : Result Granted Refusal) (after after' : List ℕ) → GrantsWidest bytes claim access r after → GrantsWidest bytes claim access r' after'
      → (r ≡ r') × (after ≡ after')
  grant_widest_determined r r' after after' p q =
      let w = widened_determined (grant_says claim access) bytes claim (widest_says r) (widest_says r') after after' p.outcome q.outcome in
      (same_widest r r' w.0 refl, w.1)

  pub ask_determined : (out : List ℕ) (r r' : Result ℕ Refusal) (after after' : List ℕ) → Asks bytes claim access out r after → Asks bytes claim access out r' after'
      → (r ≡ r') × (after ≡ after')
  ask_determined out r r' after after' p q = (same_number r r' p.answer q.answer, p.out_after ∙ sym q.out_after)
