-- Two outcomes that meet a statement are equal. Assumes nothing.
use mathlib.Core.Path.{◌≡◌, sym, ◌∙◌}
use mathlib.Core.List.{List}
use Prim.Native.Nat.{ℕ}
use Rattle.std.specs.Prelude.{Result}
use Rattle.words.specs.declared.refusal.Refusal.{Refusal}
use Rattle.words.proofs.Refusals.{same_plain, same_number}
use Rattle.returns.specs.Return.{Returns}
use Rattle.returns.specs.DropHost.{Drops}

module _ (bytes after after' : List ℕ) where
  pub give_back_determined : (r r' : Result (Unit {0}) Refusal) (host number types : ℕ) → Returns bytes host number types r after → Returns bytes host number types r' after'
      → (r ≡ r') × (after ≡ after')
  give_back_determined r r' host number types p q = (same_plain r r' p.answer q.answer, p.table_after ∙ sym q.table_after)

  pub drop_host_determined : (r r' : Result ℕ Refusal) (host : ℕ) → Drops bytes host r after → Drops bytes host r' after' → (r ≡ r') × (after ≡ after')
  drop_host_determined r r' host p q = (same_number r r' p.answer q.answer, p.table_after ∙ sym q.table_after)
