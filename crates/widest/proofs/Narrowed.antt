-- What tokens leave of a range, by the tests that the code makes. Assumes nothing.
use mathlib.Core.Path.{◌≡◌, refl, sym, ◌∙◌}
use mathlib.Core.Bool.{false}
use mathlib.Core.List.{List, [], ◌∷◌, ◌++◌, foldl, foldl-append}
use Prim.Native.Nat.{ℕ, ◌+◌, ◌-◌, ◌≤◌, ◌<◌}
use native.Mathlib.Omega.{arith}
use borrow.Author.Tests.{eqb-true, not-false, lt-ltb, le-ltb}
use lib.Dec.{eqb}
use Rattle.claims.specs.Claim.{with_range}
use Rattle.claims.specs.Rule.{conflict}
use Rattle.claims.specs.declared.claim.Claim.{Claim}
use Rattle.claims.proofs.Ranges.{clear}
use Rattle.table.specs.declared.slot.Slot.{Slot}
use Rattle.widest.specs.Widest.{last_byte, later, earlier, is_rival, beside, narrowed, over}
use Rattle.widest.specs.declared.range.Range.{Range}

-- one token
module _ (asked held wide : Claim) where
  pub before_it : held.last < asked.first → {first : ℕ} → first ≡ later wide.first (held.last + 1) → with_range asked first wide.last ≡ beside asked wide held
  unfolding beside
  before_it h e = rw (lt-ltb held.last asked.first h, e) refl

  module _ (h : asked.first ≤ held.last) where
    pub after_it : asked.last < held.first → {last : ℕ} → last ≡ earlier wide.last (held.first - 1) → with_range asked wide.first last ≡ beside asked wide held
    unfolding beside
    after_it g e = rw (le-ltb held.last asked.first h, lt-ltb asked.last held.first g, e) refl

    pub across_it : held.first ≤ asked.last → wide ≡ beside asked wide held
    unfolding beside
    across_it g = rw (le-ltb held.last asked.first h, le-ltb asked.last held.first g) refl

-- one that is no rival is in the way nowhere
pub no_rival : (held claim : Claim) → is_rival claim held ≡ false → (first last : ℕ) → last ≤ last_byte → conflict held (with_range claim first last) ≡ 0
unfolding is_rival
no_rival held claim e first last ends =
    clear held claim 0 last_byte first last (eqb-true (conflict held (with_range claim 0 last_byte)) 0 (not-false (eqb (conflict held (with_range claim 0 last_byte)) 0) e))
    (λ p q. (omega (arith, p, ends), omega arith))

-- what slots leave, and what one more does
pub record Narrowed (claim : Claim) (slots : List Slot) (range : Range) : Type 0 where
  pub left : over claim range ≡ foldl (narrowed claim) (with_range claim 0 last_byte) slots

module _ {claim : Claim} where
  pub none_narrowed : Narrowed claim [] (record { first = 0; last = last_byte })
  none_narrowed = record { left = refl }

  pub one_narrowed : {slots : List Slot} {range : Range} → Narrowed claim slots range → (slot : Slot) {r : Range} → over claim r ≡ narrowed claim (over claim range) slot
      → Narrowed claim (slots ++ slot ∷ []) r
  one_narrowed {slots} so_far slot e = record { left = e ∙ rw so_far.left (sym (foldl-append (narrowed claim) (with_range claim 0 last_byte) slots (slot ∷ []))) }
