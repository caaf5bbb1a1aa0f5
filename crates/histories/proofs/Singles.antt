-- One return for each type of each entry of an ask's list, in any order and mixed, is a way to split it. Assumes nothing.
use mathlib.Core.Path.{◌≡◌, refl, sym, ◌∙◌, ap, subst}
use mathlib.Core.Bool.{true}
use mathlib.Core.List.Memᴰ
use mathlib.Core.List.{List, [], ◌∷◌, map, Memᴰ}
use Prim.Native.Nat.{ℕ, zero, suc, ◌/◌, ◌%◌, ◌^◌}
use native.Mathlib.Nat.{pow-suc}
use native.Mathlib.Omega.{arith}
use borrow.Author.Tests.{ne_eqb}
use Rattle.words.specs.Bit.{bit}
use Rattle.words.proofs.Tests.{differ}
use Rattle.words.proofs.Bits.{bit_first, bit_next}
use Rattle.claims.proofs.Sets.{bit_zero, nonempty}
use Rattle.histories.specs.History.{Return}
use Rattle.histories.specs.Callback.{Item, Entry, Listed, Names, NoneTwice, Split, return_one, NoRepeat, Singly}

half : (k : ℕ) → 2 ^ suc k / 2 ≡ 2 ^ k
half k = rw pow-suc (omega arith)

even : (k : ℕ) → 2 ^ suc k % 2 ≡ 0
even k = rw pow-suc (omega arith)

-- the set of one type has that type, and no other
has_one : (k : ℕ) → bit k (2 ^ k) ≡ true
has_one zero = bit_first 1
has_one (suc k) = bit_next k (2 ^ suc k) ∙ rw (half k) (has_one k)

only_one : (k i : ℕ) → bit i (2 ^ k) ≡ true → k ≡ i
only_one zero zero e = refl
only_one zero (suc i) e = absurd (differ (sym e ∙ bit_next i 1 ∙ bit_zero i))
only_one (suc k) zero e = absurd (differ (sym e ∙ bit_first (2 ^ suc k) ∙ ne_eqb (2 ^ suc k % 2) 1 (λ z. omega (arith, even k))))
only_one (suc k) (suc i) e = ap suc (only_one k i (rw (half k) at (sym (bit_next i (2 ^ suc k)) ∙ e)))

same_item : (x y : Item) → Names (return_one x) y → x ≡ y
same_item x y p = let t = only_one x.type y.type p.type in λ k. record { number = p.number k; host = p.host k; type = t k }

singly_apart : (xs : List Item) → NoRepeat xs → NoneTwice (map return_one xs)
unfolding NoRepeat NoneTwice
singly_apart [] once = tt
singly_apart (x ∷ xs) once = (
  λ h m z p q.
      let o = Memᴰ.of_map return_one xs m in
      let same : o.0 ≡ x = same_item o.0 z (rw o.2 q) ∙ sym (same_item x z p) in
      once.0 (subst (λ (y : Item). Memᴰ y xs) same o.1),
  singly_apart xs once.1,
)

module _ (list : List Entry) (xs : List Item) (singly : Singly list xs) where
  singly_listed : (g : Return) → Memᴰ g (map return_one xs) → (y : Item) → Names g y → Listed list y
  singly_listed g m y p =
      let o = Memᴰ.of_map return_one xs m in
      subst (λ (z : Item). Listed list z) (same_item o.0 y (rw o.2 p)) (singly.listed o.0 o.1)

  pub singly_split : Split list (map return_one xs)
  singly_split = record {
    some = λ g m. let o = Memᴰ.of_map return_one xs m in rw (← o.2) (nonempty (2 ^ o.0.type) o.0.type (has_one o.0.type));
    listed = singly_listed;
    none_twice = singly_apart xs singly.once;
    all = λ y l. (return_one y, Memᴰ.map return_one (singly.all y l), record { number = refl; host = refl; type = has_one y.type });
  }
