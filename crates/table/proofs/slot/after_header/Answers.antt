use mathlib.Core.Path.{refl, ◌∙◌, ap}
use mathlib.Core.List.{List}
use Prim.Native.Nat.{ℕ}
use denote.Bor.{Bor}
use Rattle.table.proofs.Slots.{header_skipped}
use Rattle.table.proofs.slot.after_header.Goals as goal

pub returns : goal.returns
returns c = record { answer = ap (λ (b : Bor (List ℕ)). b.now) c.unwrap_or.ensures ∙ header_skipped c.args.table.now c.get.result _ refl c.get.ensures.lookup.0 }
