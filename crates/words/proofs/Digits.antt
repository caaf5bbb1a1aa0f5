-- Numbers by their bytes: appended, bounded, and cut into parts. Assumes nothing.
use mathlib.Core.Path.{◌≡◌, refl, sym, ◌∙◌}
use mathlib.Core.Bool.{Bool, true, false, cond, ◌&&◌, and-true}
use mathlib.Core.List.{List, [], ◌∷◌, ◌++◌}
use Prim.Native.Nat.{ℕ, zero, suc, ◌+◌, ◌*◌, ◌^◌, ◌-◌, ◌≤◌, ◌<◌}
use native.Mathlib.Nat.{pow-suc}
use native.Mathlib.Numerals.{add-one}
use native.Mathlib.Omega.{arith}
use borrow.Author.Tests.{leb-true, leb-false, le-leb, lt-leb, eqb-true, eqb-false, eq-eqb, ne_eqb}
use lib.Arith.{digits_lt}
use lib.Dec.{leb, eqb}
use lib.ListN.{length, get_or, take, drop, length-take, length-drop}
use lib.Seq.{take-add, drop-drop, drop-cons, get_or-drop}
use Rattle.words.specs.Test.{all_of}
use Rattle.words.specs.Number.{Bytes, number_from, number, part, within}

-- higher bytes first
pub appended : (n : ℕ) (xs ys : List ℕ) → number_from n (xs ++ ys) ≡ number_from (number_from n xs) ys
unfolding number_from
appended n [] ys = refl
appended n (x ∷ xs) ys = appended (n * 256 + x) xs ys

pub raised : (n : ℕ) (xs : List ℕ) → number_from n xs ≡ n * 256 ^ length xs + number xs
unfolding number_from
raised n [] = omega arith
raised n (b ∷ bs) = rw (raised (n * 256 + b) bs, raised (0 * 256 + b) bs, pow-suc) (omega arith)

pub first : (b : ℕ) (bs : List ℕ) → number (b ∷ bs) ≡ b * 256 ^ length bs + number bs
unfolding number_from
first b bs = rw (raised (0 * 256 + b) bs) (omega arith)

pub bounded : (xs : List ℕ) → Bytes xs → number xs < 256 ^ length xs
unfolding number_from
bounded [] h = omega arith
bounded (b ∷ bs) h = rw (first b bs, pow-suc) (omega (arith, digits_lt (h 0) (bounded bs (λ i. h (suc i)))))

-- a number is 0 where all its bytes are
pub zero_number : (xs : List ℕ) → eqb (number xs) 0 ≡ all_of (λ b. eqb b 0) xs
unfolding number_from all_of
zero_number xs = from 0 xs
  where
    from : (n : ℕ) (xs : List ℕ) → eqb (number_from n xs) 0 ≡ (eqb n 0 && all_of (λ b. eqb b 0) xs)
    from n [] = sym (and-true (eqb n 0))
    from n (b ∷ bs) = from (n * 256 + b) bs ∙ go (eqb n 0) (eqb b 0) refl refl
      where
        go : (s t : Bool) → eqb n 0 ≡ s → eqb b 0 ≡ t
            → (eqb (n * 256 + b) 0 && all_of (λ b. eqb b 0) bs) ≡ (s && cond t (all_of (λ b. eqb b 0) bs) false)
        go true true p q = rw (eq-eqb (n * 256 + b) 0 (omega (arith, eqb-true n 0 p, eqb-true b 0 q)))
        go true false p q = rw (ne_eqb (n * 256 + b) 0 (λ z. eqb-false b 0 q (omega arith)))
        go false t p q = rw (ne_eqb (n * 256 + b) 0 (λ z. eqb-false n 0 p (omega arith)))

-- parts of a list of bytes
pub part_length : (at n : ℕ) (s : List ℕ) → at + n ≤ length s → length (part at n s) ≡ n
part_length at n s h = simp (length-take, length-drop) (omega arith)

take_bytes : (n : ℕ) (xs : List ℕ) → Bytes xs → Bytes (take n xs)
take_bytes zero xs h i = omega arith
take_bytes (suc n) [] h i = h i
take_bytes (suc n) (x ∷ xs) h zero = h 0
take_bytes (suc n) (x ∷ xs) h (suc i) = take_bytes n xs (λ j. h (suc j)) i

pub part_bytes : (at n : ℕ) (s : List ℕ) → Bytes s → Bytes (part at n s)
part_bytes at n s h = take_bytes n (drop at s) (λ i. rw get_or-drop (h (at + i)))

pub part_add : (at m n : ℕ) (s : List ℕ) → part at (m + n) s ≡ part at m s ++ part (at + m) n s
part_add at m n s = simp (take-add, drop-drop)

part_cons : (at n : ℕ) (s : List ℕ) → at < length s → part at (suc n) s ≡ get_or s at 0 ∷ part (at + 1) n s
part_cons at n s h = rw (drop-cons s at 0 h, add-one)

-- a part that is lent by its two ends
pub lent_part : (at n : ℕ) (s : List ℕ) → take (at + n - at) (drop at s) ≡ part at n s
lent_part at n s = let e : at + n - at ≡ n = omega arith in rw e

-- two bytes, and four, one by one
pub two : (s : List ℕ) (at : ℕ) → at + 2 ≤ length s → number (part at 2 s) ≡ get_or s at 0 * 256 + get_or s (at + 1) 0
unfolding number_from
two s at h =
    let a : at < length s = omega arith in
    let b : at + 1 < length s = omega arith in
    rw (part_cons at 1 s a, part_cons (at + 1) 0 s b) (omega arith)

pub four : (s : List ℕ) (at : ℕ) → at + 4 ≤ length s
    → number (part at 4 s) ≡ get_or s at 0 * 16777216 + get_or s (at + 1) 0 * 65536 + get_or s (at + 2) 0 * 256 + get_or s (at + 3) 0
unfolding number_from
four s at h =
    let a : at < length s = omega arith in
    let b : at + 1 < length s = omega arith in
    let c : at + 1 + 1 < length s = omega arith in
    let d : at + 1 + 1 + 1 < length s = omega arith in
    let e : at + 1 + 1 ≡ at + 2 = omega arith in
    let f : at + 2 + 1 ≡ at + 3 = omega arith in
    rw (part_cons at 3 s a, part_cons (at + 1) 2 s b, part_cons (at + 1 + 1) 1 s c, part_cons (at + 1 + 1 + 1) 0 s d, e, f) (omega arith)

-- a number by its upper and its lower bytes
pub halves : (s : List ℕ) (at m n : ℕ) → at + m + n ≤ length s
    → number (part at (m + n) s) ≡ number (part at m s) * 256 ^ n + number (part (at + m) n s)
halves s at m n h =
    rw (part_add at m n s, appended 0 (part at m s) (part (at + m) n s), raised (number (part at m s)) (part (at + m) n s), part_length (at + m) n s h)

-- room for a width at a place, asked without a sum
pub room : (at width n : ℕ) → width ≤ n → leb at (n - width) ≡ leb (at + width) n
room at width n h = go (leb (at + width) n) refl
  where
    go : (b : Bool) → leb (at + width) n ≡ b → leb at (n - width) ≡ b
    go true q = le-leb at (n - width) (omega (arith, leb-true (at + width) n q))
    go false q = lt-leb at (n - width) (omega (arith, leb-false (at + width) n q))

-- what a test for room shows where it passed
pub fits : {b : Bool} (at width : ℕ) (s : List ℕ) → b ≡ within at width s → b ≡ true → at + width ≤ length s
unfolding within
fits at width s q h = leb-true (at + width) (length s) (sym q ∙ h)

-- eight bytes, one by one
pub eight : (s : List ℕ) (at : ℕ) → at + 8 ≤ length s
    → number (part at 8 s)
    ≡ get_or s at 0 * 72057594037927936 + get_or s (at + 1) 0 * 281474976710656 + get_or s (at + 2) 0 * 1099511627776
    + get_or s (at + 3) 0 * 4294967296 + get_or s (at + 4) 0 * 16777216 + get_or s (at + 5) 0 * 65536 + get_or s (at + 6) 0 * 256 + get_or s (at + 7) 0
eight s at h =
    let e : at + 4 + 1 ≡ at + 5 = omega arith in
    let f : at + 4 + 2 ≡ at + 6 = omega arith in
    let g : at + 4 + 3 ≡ at + 7 = omega arith in
    rw (halves s at 4 4 (omega arith), four s at (omega arith), four s (at + 4) (omega arith), e, f, g) (omega arith)
