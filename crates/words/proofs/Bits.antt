-- The bits of two numbers joined, and of what they share. Assumes nothing.
use mathlib.Core.Path.{◌≡◌, refl, sym, ◌∙◌}
use mathlib.Core.Bool.{Bool, true, false, ◌||◌, ◌&&◌}
use Prim.Native.Nat.{ℕ, zero, suc, ◌/◌, ◌%◌, ◌^◌, ◌≤◌, min}
use native.Mathlib.Nat.{pow-suc, mul_comm, div-div-eq-div-mul}
use native.Mathlib.Omega.{arith}
use borrow.Author.Tests.{eqb-true, eqb-false, eq-eqb, ne_eqb}
use lib.Bits.{bit_and, bit_or, and_zero_l, and_step, or_step, and_shr, or_shr}
use lib.Dec.{eqb}
use Rattle.words.specs.Bit.{bit}

-- the lowest bit, and the others by half the number
pub bit_first : (n : ℕ) → bit 0 n ≡ eqb (n % 2) 1
unfolding bit
bit_first n = let e : n / 2 ^ 0 ≡ n = omega arith in rw e

pub bit_next : (i n : ℕ) → bit (suc i) n ≡ bit i (n / 2)
unfolding bit
bit_next i n = let e : n / 2 ^ suc i ≡ n / 2 / 2 ^ i = rw (pow-suc, mul_comm (2 ^ i) 2) (sym (div-div-eq-div-mul n 2 (2 ^ i))) in rw e

lowest : (a b : ℕ) → eqb (bit_or a b % 2) 1 ≡ (eqb (a % 2) 1 || eqb (b % 2) 1)
lowest a b = go (eqb (a % 2) 1) (eqb (b % 2) 1) refl refl
  where
    go : (s t : Bool) → eqb (a % 2) 1 ≡ s → eqb (b % 2) 1 ≡ t → eqb (bit_or a b % 2) 1 ≡ (s || t)
    go true t p q = eq-eqb (bit_or a b % 2) 1 (omega (arith, or_step a b, eqb-true (a % 2) 1 p))
    go false true p q = eq-eqb (bit_or a b % 2) 1 (omega (arith, or_step a b, eqb-true (b % 2) 1 q))
    go false false p q = ne_eqb (bit_or a b % 2) 1 (λ z. omega (arith, or_step a b, eqb-false (a % 2) 1 p, eqb-false (b % 2) 1 q))

-- a bit is in the union where it is in either
pub bit-bit_or : (i a b : ℕ) → bit i (bit_or a b) ≡ (bit i a || bit i b)
unfolding bit
bit-bit_or i a b = rw (or_shr a b i) (lowest (a / 2 ^ i) (b / 2 ^ i))

shared : (a b : ℕ) → eqb (bit_and a b % 2) 1 ≡ (eqb (a % 2) 1 && eqb (b % 2) 1)
shared a b = go (eqb (a % 2) 1) (eqb (b % 2) 1) refl refl
  where
    go : (s t : Bool) → eqb (a % 2) 1 ≡ s → eqb (b % 2) 1 ≡ t → eqb (bit_and a b % 2) 1 ≡ (s && t)
    go true true p q = eq-eqb (bit_and a b % 2) 1 (omega (arith, and_step a b, eqb-true (a % 2) 1 p, eqb-true (b % 2) 1 q))
    go true false p q = ne_eqb (bit_and a b % 2) 1 (λ z. omega (arith, and_step a b, eqb-false (b % 2) 1 q))
    go false t p q = ne_eqb (bit_and a b % 2) 1 (λ z. omega (arith, and_step a b, eqb-false (a % 2) 1 p))

-- a bit is in what two numbers share where it is in both
pub bit-bit_and : (i a b : ℕ) → bit i (bit_and a b) ≡ (bit i a && bit i b)
unfolding bit
bit-bit_and i a b = rw (and_shr a b i) (shared (a / 2 ^ i) (b / 2 ^ i))

half : (a b : ℕ) → bit_and a b / 2 ≡ bit_and (a / 2) (b / 2)
half a b = omega (arith, and_step a b)

odd : (a b : ℕ) → bit_and a b % 2 ≡ min (a % 2) (b % 2)
odd a b = omega (arith, and_step a b)

pub and_assoc : (a b c : ℕ) → bit_and (bit_and a b) c ≡ bit_and a (bit_and b c)
and_assoc a b c = go a a b c (omega arith)
  where
    go : (n a b c : ℕ) → a ≤ n → bit_and (bit_and a b) c ≡ bit_and a (bit_and b c)
    go zero a b c h = let z : a ≡ 0 = omega arith in rw (z, and_zero_l b, and_zero_l c, and_zero_l (bit_and b c))
    go (suc n) a b c h =
        let ih = go n (a / 2) (b / 2) (c / 2) (omega arith) in
        and_step (bit_and a b) c
        ∙ rw (half a b, odd a b, ih) (sym (and_step a (bit_and b c) ∙ rw (half b c, odd b c) (omega arith)))
