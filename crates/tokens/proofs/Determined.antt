-- Two outcomes that meet a statement are equal. Assumes nothing.
use mathlib.Core.Path.{◌≡◌, refl, sym, ◌∙◌}
use mathlib.Core.List.{List, [], ◌∷◌}
use lib.ListN.{get_or}
use Rattle.std.specs.Prelude.{Result}
use Prim.Native.Nat.{ℕ}
use Rattle.words.specs.Said.{Said, done, refused, is_done, left}
use Rattle.words.specs.declared.refusal.Refusal.{Refusal}
use Rattle.words.proofs.Refusals.{same_says, same_number}
use Rattle.claims.specs.declared.claim.Claim.{Claim}
use Rattle.table.specs.Table.{Table}
use Rattle.table.specs.Layout.{table_of}
use Rattle.table.specs.Call.{says_of, left_of}
use Rattle.widest.proofs.Largest.{one_widest}
use Rattle.tokens.specs.Grant.{grant_says, Grants}
use Rattle.tokens.specs.Widest.{with_more, Widened, widest_says, GrantsWidest}
use Rattle.tokens.specs.declared.granting.Granted.{Granted}
use Rattle.tokens.specs.Ask.{Asks}

-- what a grant becomes with the widest range is fixed by what it says
pub widened_determined : (says : Table → Said) (bytes : List ℕ) (claim : Claim) (said said' : Said) (after after' : List ℕ)
    → Widened says bytes claim said after → Widened says bytes claim said' after' → (said ≡ said') × (after ≡ after')
unfolding is_done with_more left_of left
widened_determined says bytes claim said said' after after' p q = go (says_of says bytes) refl
  where
    go : (s : Said) → says_of says bytes ≡ s → (said ≡ said') × (after ≡ after')
    go (done values) e =
        let w = one_widest (table_of bytes) claim p.first p.last q.first q.last (p.widest (rw e refl)) (q.widest (rw e refl)) in
        (p.answer ∙ rw (w.0, w.1) refl ∙ sym q.answer, p.table_after ∙ rw (w.0, w.1) refl ∙ sym q.table_after)
    go (refused number values) e = ((rw e at p.answer) ∙ sym (rw e at q.answer), (rw e at p.table_after) ∙ sym (rw e at q.table_after))

-- what a widest grant answers, read back
unfoldable given_back : List ℕ → Granted
given_back values = record { number = get_or values 0 0; range = record { first = get_or values 1 0; last = get_or values 2 0 } }

pub same_widest : {said : Said} (r r' : Result Granted Refusal) → widest_says r ≡ said → widest_says r' ≡ said → r ≡ r'
unfolding given_back
same_widest = same_says (λ granted. granted.number ∷ granted.range.first ∷ granted.range.last ∷ []) given_back (λ granted. refl)

module _ (bytes : List ℕ) (after after' : List ℕ) where
  pub grant_determined : (r r' : Result ℕ Refusal) (claim : Claim) → Grants bytes claim r after → Grants bytes claim r' after' → (r ≡ r') × (after ≡ after')
  grant_determined r r' claim p q = (same_number r r' p.answer q.answer, p.table_after ∙ sym q.table_after)

  pub grant_widest_determined : (r r' : Result Granted Refusal) (claim : Claim) → GrantsWidest bytes claim r after → GrantsWidest bytes claim r' after' → (r ≡ r') × (after ≡ after')
  grant_widest_determined r r' claim p q =
      let w = widened_determined (grant_says claim) bytes claim (widest_says r) (widest_says r') after after' p.outcome q.outcome in
      (same_widest r r' w.0 refl, w.1)

  pub ask_determined : (r r' : Result ℕ Refusal) (claim : Claim) (out : List ℕ) → Asks bytes claim out r after → Asks bytes claim out r' after' → (r ≡ r') × (after ≡ after')
  ask_determined r r' claim out p q = (same_number r r' p.answer q.answer, p.out_after ∙ sym q.out_after)
