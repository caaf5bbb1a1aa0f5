-- Numbers in bytes that are written: read again, one piece after the other. Assumes nothing.
use Rattle.std.specs.Prelude.{if◌then◌else◌}
use mathlib.Core.Path.{◌≡◌, refl, sym, ◌∙◌, ap}
use mathlib.Core.Bool.{Bool, true, false}
use mathlib.Core.List.{List, [], ◌∷◌, ◌++◌, append_assoc, append-nil}
use Prim.Native.Nat.{ℕ, zero, suc, ◌+◌, ◌-◌, ◌*◌, ◌/◌, ◌%◌, ◌^◌, ◌≤◌, ◌<◌}
use native.Mathlib.Nat.{add-zero, zero-add, pow-suc}
use native.Mathlib.Numerals.{add-one}
use native.Mathlib.Omega.{arith}
use borrow.Author.Tests.{leb-true, le-leb}
use lib.Dec.{leb}
use lib.ListN.{length, take, drop, set, length-append, length-take, length-drop, take-append-drop}
use lib.Seq.{length-take-le, drop-drop, take_at, drop_at, take-append-le, drop-append-le, take-append-add, drop-append-add, append_snoc, set_split}
use Rattle.words.specs.Number.{Bytes, number_from, number, part, within, number_at}
use Rattle.words.specs.Writing.{digits, over, written}
use Rattle.words.specs.Realm.{realm_at, realm_bytes}
use Rattle.words.specs.declared.realm.Realm.{Realm}
use Rattle.words.proofs.Digits.{appended, first, bounded, part_length, part_bytes, part_add}
use Rattle.words.proofs.Order.{number_at_lem, realm_at_lem}

pub digits_length : (width n : ℕ) → length (digits width n) ≡ width
unfolding digits
digits_length zero n = refl
digits_length (suc width) n = simp (length-append, digits_length width (n / 256)) (omega arith)

-- what is spelled is read again, at a width that holds it
pub digits_number : (width n : ℕ) → n < 256 ^ width → number (digits width n) ≡ n
unfolding digits number_from
digits_number zero n h = omega arith
digits_number (suc width) n h =
    let k : n / 256 < 256 ^ width = omega (arith, pow-suc 256 width) in
    rw (appended, digits_number width (n / 256) k) (omega arith)

-- one higher byte
digits_cons : (width b n : ℕ) → b < 256 → n < 256 ^ width → digits (suc width) (b * 256 ^ width + n) ≡ b ∷ digits width n
unfolding digits
digits_cons zero b n hb hn =
    let e : (b * 1 + n) % 256 ≡ b = omega arith in ap (λ (x : ℕ). x ∷ []) e
digits_cons (suc width) b n hb hn =
    let k : n / 256 < 256 ^ width = omega (arith, pow-suc 256 width) in
    let e : b * 256 ^ suc width ≡ b * 256 ^ width * 256 = rw pow-suc (omega arith) in
    let q : (b * 256 ^ suc width + n) / 256 ≡ b * 256 ^ width + n / 256 = omega (arith, e) in
    let m : (b * 256 ^ suc width + n) % 256 ≡ n % 256 = omega (arith, e) in
    rw (q, m) (ap (λ (xs : List ℕ). xs ++ (n % 256 ∷ [])) (digits_cons width b (n / 256) hb k))

-- bytes are spelled by their number
pub digits_back : (xs : List ℕ) → Bytes xs → digits (length xs) (number xs) ≡ xs
unfolding digits
digits_back [] h = refl
digits_back (b ∷ bs) h =
    ap (digits (suc (length bs))) (first b bs)
    ∙ digits_cons (length bs) b (number bs) (h 0) (bounded bs (λ i. h (suc i)))
    ∙ ap (λ (xs : List ℕ). b ∷ xs) (digits_back bs (λ i. h (suc i)))

pub realm_length : (realm : Realm) → length (realm_bytes realm) ≡ 16
unfolding realm_bytes
realm_length realm = simp (length-append, digits_length)

-- writing changes no length
pub over_length : (at : ℕ) (piece bytes : List ℕ) → at + length piece ≤ length bytes → length (over at piece bytes) ≡ length bytes
unfolding over
over_length at piece bytes h = simp (length-append, length-take, length-drop) (omega arith)

-- two pieces, one after the other
pub over_next : (at n : ℕ) (xs ys bytes : List ℕ) → length xs ≡ n → at + n ≤ length bytes
    → over (at + n) ys (over at xs bytes) ≡ over at (xs ++ ys) bytes
unfolding over
over_next at n xs ys bytes e h =
    let l : length (take at bytes ++ xs) ≡ at + n = length-append (take at bytes) xs ∙ rw (e, length-take-le at bytes (omega arith)) in
    let p = take at bytes ++ xs in
    let r = drop (at + length xs) bytes in
    let k : at + length xs + length ys ≡ at + length (xs ++ ys) = omega (arith, length-append xs ys) in
    let d : drop (at + n + length ys) (p ++ r) ≡ drop (at + length (xs ++ ys)) bytes =
    sym (drop-drop (length ys) (at + n) (p ++ r)) ∙ rw (drop_at p r (at + n) l, drop-drop (length ys) (at + length xs) bytes, k)
    in
    rw (take_at p r (at + n) l, d, append_assoc (take at bytes) xs ys)

-- a piece within the first of two parts, and within the second
pub over_front : (at : ℕ) (piece xs ys : List ℕ) → at + length piece ≤ length xs → over at piece (xs ++ ys) ≡ over at piece xs ++ ys
unfolding over
over_front at piece xs ys h =
    rw (take-append-le at xs ys (omega arith), drop-append-le (at + length piece) xs ys h) (sym (append_assoc (take at xs ++ piece) (drop (at + length piece) xs) ys))

pub over_back : (n at : ℕ) (piece xs ys : List ℕ) → length xs ≡ n → over (n + at) piece (xs ++ ys) ≡ xs ++ over at piece ys
unfolding over
over_back n at piece xs ys e =
    let k : length xs + at + length piece ≡ length xs + (at + length piece) = omega arith in
    rw (← e, k, take-append-add xs ys at, drop-append-add xs ys (at + length piece))
    (append_assoc (xs ++ take at ys) piece (drop (at + length piece) ys) ∙ append_assoc xs (take at ys) (piece ++ drop (at + length piece) ys)
    ∙ ap (λ (zs : List ℕ). xs ++ zs) (sym (append_assoc (take at ys) piece (drop (at + length piece) ys))))

-- nothing written, one byte
pub over_none : (at : ℕ) (bytes : List ℕ) → over at [] bytes ≡ bytes
unfolding over
over_none at bytes = rw (add-zero at, append-nil (take at bytes)) (take-append-drop at bytes)

-- from the first byte on
pub over_start : (piece bytes : List ℕ) → over 0 piece bytes ≡ piece ++ drop (length piece) bytes
unfolding over
over_start piece bytes = rw (zero-add (length piece)) refl

pub set_over : (bytes : List ℕ) (at b : ℕ) → at < length bytes → set bytes at b ≡ over at (b ∷ []) bytes
unfolding over
set_over bytes at b h = set_split bytes at b h ∙ rw (add-one at) (sym (append_snoc (take at bytes) b (drop (suc at) bytes)))

-- a piece that has room is written
pub written_all : (at : ℕ) (piece bytes : List ℕ) → at + length piece ≤ length bytes → written at piece bytes ≡ over at piece bytes
unfolding written within
written_all at piece bytes h = rw (le-leb (at + length piece) (length bytes) h) refl

-- a total write keeps the length
pub written_length : (at : ℕ) (piece bytes : List ℕ) → length (written at piece bytes) ≡ length bytes
unfolding written within
written_length at piece bytes = go (leb (at + length piece) (length bytes)) refl
  where
    go : (b : Bool) → leb (at + length piece) (length bytes) ≡ b → length (if b then over at piece bytes else bytes) ≡ length bytes
    go true q = over_length at piece bytes (leb-true (at + length piece) (length bytes) q)
    go false q = refl

-- a piece written right after another
pub next_written : (at n : ℕ) (xs ys s t u : List ℕ) → length xs ≡ n → at + n + length ys ≤ length s → t ≡ over at xs s
    → u ≡ written (at + n) ys t → u ≡ over at (xs ++ ys) s
next_written at n xs ys s t u l h p q =
    let fits : at + length xs ≤ length s = omega arith in
    let k : at + n + length ys ≤ length (over at xs s) = rw (over_length at xs s fits) h in
    q ∙ ap (written (at + n) ys) p ∙ written_all (at + n) ys (over at xs s) k ∙ over_next at n xs ys s l (omega arith)

-- a piece between others
part_between : (pre xs post : List ℕ) (at n : ℕ) → length pre ≡ at → length xs ≡ n → part at n (pre ++ (xs ++ post)) ≡ xs
part_between pre xs post at n h k = rw (drop_at pre (xs ++ post) at h, take_at xs post n k)

ends_inside : (pre xs post : List ℕ) (at n : ℕ) → length pre ≡ at → length xs ≡ n → at + n ≤ length (pre ++ (xs ++ post))
ends_inside pre xs post at n h k = rw (length-append pre (xs ++ post), length-append xs post) (omega arith)

-- what was written is read again
pub number_again : (pre post : List ℕ) (at width n : ℕ) → length pre ≡ at → n < 256 ^ width → number_at width at (pre ++ (digits width n ++ post)) ≡ n
number_again pre post at width n h k =
    let l = digits_length width n in
    number_at_lem width at (pre ++ (digits width n ++ post)) (ends_inside pre (digits width n) post at width h l)
    ∙ rw (part_between pre (digits width n) post at width h l) (digits_number width n k)

-- numbers of eight bytes
pub record FitsRealm (realm : Realm) : Type 0 where
  pub hi : realm.hi < 256 ^ 8
  pub lo : realm.lo < 256 ^ 8

pub realm_again : (pre post : List ℕ) (at : ℕ) (realm : Realm) → length pre ≡ at → FitsRealm realm → realm_at at (pre ++ (realm_bytes realm ++ post)) ≡ realm
unfolding realm_bytes
realm_again pre post at realm h f =
    let a = digits 8 realm.hi in
    let b = digits 8 realm.lo in
    let la = digits_length 8 realm.hi in
    let lb = digits_length 8 realm.lo in
    let ends : at + 16 ≤ length (pre ++ (a ++ b ++ post)) = ends_inside pre (a ++ b) post at 16 h (length-append a b ∙ rw (la, lb) refl) in
    let e : pre ++ (a ++ b ++ post) ≡ pre ++ (a ++ (b ++ post)) = ap (λ (xs : List ℕ). pre ++ xs) (append_assoc a b post) in
    let hi = part_between pre a (b ++ post) at 8 h la in
    let l8 : length (pre ++ a) ≡ at + 8 = length-append pre a ∙ rw (h, la) refl in
    let lo = ap (part (at + 8) 8) (sym (append_assoc pre a (b ++ post))) ∙ part_between (pre ++ a) b post (at + 8) 8 l8 lb in
    realm_at_lem at (pre ++ (a ++ b ++ post)) ends
    ∙ rw (e, hi, lo, digits_number 8 realm.hi f.hi, digits_number 8 realm.lo f.lo) refl

-- bytes that were read are spelled again
module _ (t : List ℕ) (ht : Bytes t) where
  spelled_again : (at width : ℕ) → at + width ≤ length t → digits width (number (part at width t)) ≡ part at width t
  spelled_again at width h =
      ap (λ (n : ℕ). digits n (number (part at width t))) (sym (part_length at width t h)) ∙ digits_back (part at width t) (part_bytes at width t ht)

  pub number_spelled : (at width : ℕ) → at + width ≤ length t → digits width (number_at width at t) ≡ part at width t
  number_spelled at width h = ap (digits width) (number_at_lem width at t h) ∙ spelled_again at width h

  pub number_fits : (at width : ℕ) → at + width ≤ length t → number_at width at t < 256 ^ width
  number_fits at width h =
      rw (number_at_lem width at t h) (rw (part_length at width t h) at (bounded (part at width t) (part_bytes at width t ht)))

  module _ (at : ℕ) (h : at + 16 ≤ length t) where
    pub realm_spelled : realm_bytes (realm_at at t) ≡ part at 16 t
    unfolding realm_bytes
    realm_spelled =
        rw (realm_at_lem at t h, spelled_again at 8 (omega arith), spelled_again (at + 8) 8 (omega arith)) (sym (part_add at 8 8 t))

    pub realm_fits : FitsRealm (realm_at at t)
    realm_fits =
        rw (realm_at_lem at t h)
        (record {
          hi = rw (part_length at 8 t (omega arith)) at (bounded (part at 8 t) (part_bytes at 8 t ht));
          lo = rw (part_length (at + 8) 8 t (omega arith)) at (bounded (part (at + 8) 8 t) (part_bytes (at + 8) 8 t ht));
        })

-- what a copy into the part from a place on leaves
pub copied : (at : ℕ) (piece out after : List ℕ) → after ≡ piece
    → take at out ++ (after ++ drop (at + length piece - at) (drop at out)) ≡ over at piece out
unfolding over
copied at piece out after q =
    let n : at + length piece - at ≡ length piece = omega arith in
    rw (q, n, drop-drop (length piece) at out, append_assoc)
