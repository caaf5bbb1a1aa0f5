-- The invariant: a table in order whose numbers differ and in which nothing conflicts; and the two changes that keep it: tokens that claim
-- less, and one token more that nothing is in the way of. Assumes nothing.
use mathlib.Core.Path.{◌≡◌, refl, sym, ◌∙◌}
use mathlib.Core.Bool.{true, false}
use mathlib.Core.List.{List}
use mathlib.Core.Logic.{◌≢◌}
use Prim.Native.Nat.{ℕ, ◌<◌}
use native.Mathlib.Omega.{arith}
use borrow.Author.Tests.{eqb-true, not-false}
use lib.Dec.{eqb}
use lib.ListN.{length, get_or}
use Rattle.words.specs.Test.{place_of}
use Rattle.claims.specs.Rule.{conflict}
use Rattle.claims.specs.declared.claim.Claim.{Claim}
use Rattle.claims.proofs.Symmetry.{symmetric}
use Rattle.claims.proofs.Within.{Within, apart_within}
use Rattle.table.specs.Table.{Table, limit, with_slots, issue, is_free, is_in_the_way}
use Rattle.table.specs.declared.slot.Slot.{Slot}
use Rattle.table.specs.declared.slot.Slot.TheVariants.{Free, Held}
use Rattle.table.proofs.Means.{Ordered, InOrder, order_at, below_next}
use Rattle.tokens.specs.Grant.{granted}
use Rattle.tokens.proofs.Kept.{Passed}
use Rattle.audit.specs.Audit.{apart}
use Rattle.audit.proofs.Exactly.{free_last, from_free, tokens_apart, apart_tokens}
use Rattle.histories.specs.Callback.{slot_at}
use Rattle.histories.proofs.Places.{none_at, place_in_lem, at_set}

-- any two places, of a table
pub record AllApart (t : Table) : Type 0 where
  pub at : (i j : ℕ) → i ≢ j → apart (slot_at t i) (slot_at t j) ≡ true

pub record Sound (t : Table) : Type 0 where
  pub order : InOrder t
  pub all : AllApart t

-- a slot that is free now, or whose token is the old one and claims no more
pub record Less (number : ℕ) (a : Claim) (other : ℕ) (b : Claim) : Type 0 where
  pub number_same : number ≡ other
  pub within : Within a b

unfoldable pub Shrunk : Slot → Slot → Type 0
Shrunk Free slot = Unit {0}
Shrunk (Held number a) Free = ⊥
Shrunk (Held number a) (Held other b) = Less number a other b

apart_shrunk : (s s₀ u u₀ : Slot) → Shrunk s s₀ → Shrunk u u₀ → apart s₀ u₀ ≡ true → apart s u ≡ true
unfolding Shrunk
apart_shrunk Free s₀ u u₀ w v e = from_free u
apart_shrunk (Held n a) Free u u₀ w v e = absurd w
apart_shrunk (Held n a) (Held m b) Free u₀ w v e = free_last (Held n a)
apart_shrunk (Held n a) (Held m b) (Held k c) Free w v e = absurd v
apart_shrunk (Held n a) (Held m b) (Held k c) (Held l d) w v e =
    let p = tokens_apart m l b d e in
    apart_tokens n k a c
    (λ z. p.0 (sym w.number_same ∙ z ∙ v.number_same))
    (symmetric c a (apart_within c d a v.within (symmetric a d (apart_within a b d w.within p.1))))

pub shrunk_apart : (t : Table) (slots : List Slot) → AllApart t → ((i : ℕ) → Shrunk (get_or slots i Free) (slot_at t i)) → AllApart (with_slots t slots)
shrunk_apart t slots all less = record {
  at = λ i j d. apart_shrunk (get_or slots i Free) (slot_at t i) (get_or slots j Free) (slot_at t j) (less i) (less j) (all.at i j d);
}

module _ (top next : ℕ) (claim : Claim) where
  harmless : (number : ℕ) (held : Claim) → is_in_the_way claim (Held number held) ≡ false → conflict held claim ≡ 0
  unfolding is_in_the_way
  harmless number held e = eqb-true (conflict held claim) 0 (not-false (eqb (conflict held claim) 0) e)

  earlier : (number : ℕ) (held : Claim) → Ordered top next (Held number held) → number ≢ next
  unfolding Ordered
  earlier number held o z = let h = below_next top next number held o.0 in omega arith

  new_first : (slot : Slot) → Ordered top next slot → is_in_the_way claim slot ≡ false → apart (Held next claim) slot ≡ true
  new_first Free o e = free_last (Held next claim)
  new_first (Held number held) o e =
      apart_tokens next number claim held (λ z. earlier number held o (sym z)) (symmetric held claim (harmless number held e))

  new_last : (slot : Slot) → Ordered top next slot → is_in_the_way claim slot ≡ false → apart slot (Held next claim) ≡ true
  new_last Free o e = from_free (Held next claim)
  new_last (Held number held) o e = apart_tokens number next held claim (earlier number held o) (harmless number held e)

pub free_harmless : (claim : Claim) → is_in_the_way claim Free ≡ false
unfolding is_in_the_way
free_harmless claim = refl

pub granted_apart : (t : Table) → Sound t → (claim : Claim) → Passed claim t → AllApart (granted claim t)
unfolding granted
granted_apart t sound claim p = record {
  at = λ i j d.
      at_set (λ s. apart s (get_or new j Free) ≡ true) t.slots k i token inside
      (λ e. at_set (λ s. apart token s ≡ true) t.slots k j token inside
      (λ e'. absurd (d (e ∙ sym e')))
      (λ n. new_first (limit t) t.next claim (slot_at t j) (order_at t sound.order j) (none j)))
      (λ n. at_set (λ s. apart (slot_at t i) s ≡ true) t.slots k j token inside
      (λ e'. new_last (limit t) t.next claim (slot_at t i) (order_at t sound.order i) (none i))
      (λ n'. sound.all.at i j d));
}
  where
    k : ℕ
    k = place_of is_free t.slots

    token : Slot
    token = Held t.next claim

    new : List Slot
    new = (issue t k claim).slots

    inside : k < length t.slots
    inside = place_in_lem is_free t.slots p.room

    none : (i : ℕ) → is_in_the_way claim (slot_at t i) ≡ false
    none i = none_at (is_in_the_way claim) (free_harmless claim) t.slots p.harmless i
