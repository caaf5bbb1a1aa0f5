-- A slot in bytes, both ways: what is written is read again, what is well formed is spelled as it stood. Assumes nothing.
use Rattle.std.specs.Prelude.{if◌then◌else◌}
use mathlib.Core.Path.{◌≡◌, refl, sym, ◌∙◌, ap, ap₂}
use mathlib.Core.Bool.{Bool, true, false, cond, ◌||◌, ◌&&◌}
use mathlib.Core.List.{List, [], ◌∷◌, ◌++◌, append_assoc}
use Prim.Native.Nat.{ℕ, ◌+◌, ◌^◌, ◌≤◌, ◌<◌}
use native.Mathlib.Omega.{arith}
use borrow.Author.Tests.{eqb-true}
use lib.Dec.{eqb}
use lib.ListN.{length, get_or, take, replicate}
use lib.Seq.{take-add, take_all}
use Rattle.words.specs.Test.{all_of}
use Rattle.words.specs.Number.{Bytes, number_from, number, within, number_at}
use Rattle.words.specs.Writing.{digits}
use Rattle.words.proofs.Tests.{differ, and_left, and_right}
use Rattle.words.proofs.Written.{digits_number, number_spelled, number_fits}
use Rattle.claims.specs.declared.claim.Claim.{Claim}
use Rattle.table.specs.Layout.{width, Fits, kind_of, claim_of, slot_of, file_bytes, field_bytes, slot_bytes}
use Rattle.table.specs.Form.{all_zero, is_token, is_slot}
use Rattle.table.specs.declared.slot.Slot.TheVariants.{Free, Held}

fields : (kind number : ℕ) (claim : Claim) → claim_of (field_bytes kind number claim) ≡ record {
  types = number_from 0 (digits 2 claim.types);
  host = number_from 0 (digits 2 claim.host);
  file = record { hi = number_from 0 (digits 8 claim.file.hi); lo = number_from 0 (digits 4 claim.file.lo) };
  first = number_from 0 (digits 8 claim.first);
  last = number_from 0 (digits 8 claim.last);
}
unfolding claim_of field_bytes file_bytes digits number_at within
fields kind number claim = refl

number_field : (kind number : ℕ) (claim : Claim) → number_at 8 33 (field_bytes kind number claim) ≡ number_from 0 (digits 8 number)
unfolding field_bytes file_bytes digits number_at within
number_field kind number claim = refl

pub claim_again : (kind number : ℕ) (claim : Claim) → Fits claim → claim_of (field_bytes kind number claim) ≡ claim
claim_again kind number claim f =
    fields kind number claim
    ∙ (λ k. record {
      types = digits_number 2 claim.types f.types k;
      host = digits_number 2 claim.host f.host k;
      file = record { hi = digits_number 8 claim.file.hi f.hi k; lo = digits_number 4 claim.file.lo f.lo k };
      first = digits_number 8 claim.first f.first k;
      last = digits_number 8 claim.last f.last k;
    })

pub field_again : (kind number : ℕ) (claim : Claim) → number < 256 ^ 8 → number_at 8 33 (field_bytes kind number claim) ≡ number
field_again kind number claim f = number_field kind number claim ∙ digits_number 8 number f

pub kind_again : (kind number : ℕ) (claim : Claim) → kind_of (field_bytes kind number claim) ≡ kind
unfolding kind_of field_bytes
kind_again kind number claim = refl

pub token_again : (number : ℕ) (claim : Claim) → number < 256 ^ 8 → Fits claim → slot_of (slot_bytes (Held number claim)) ≡ Held number claim
unfolding slot_of slot_bytes
token_again number claim n f = rw (kind_again 1 number claim, claim_again 1 number claim f, field_again 1 number claim n) refl

pub free_again : slot_of (slot_bytes Free) ≡ Free
unfolding slot_of slot_bytes kind_of
free_again = refl

-- a field more at the end of a front
pub longer : (at w : ℕ) (s front : List ℕ) → Bytes s → at + w ≤ length s → front ≡ take at s → front ++ digits w (number_at w at s) ≡ take (at + w) s
longer at w s front bytes h e =
    ap₂ {C = List ℕ} (λ (x y : List ℕ). x ++ y) e (number_spelled s bytes at w h) ∙ sym (take-add at w s)

pub first_byte : (s : List ℕ) (kind : ℕ) → 1 ≤ length s → kind_of s ≡ kind → kind ∷ [] ≡ take 1 s
unfolding kind_of
first_byte [] kind h e = absurd (omega arith)
first_byte (x ∷ xs) kind h e = ap (λ (y : ℕ). y ∷ []) (sym e)

module _ (s : List ℕ) (size : length s ≡ width) (bytes : Bytes s) where
  token_spelled : kind_of s ≡ 1 → field_bytes 1 (number_at 8 33 s) (claim_of s) ≡ s
  unfolding field_bytes file_bytes claim_of
  token_spelled e =
      let a = first_byte s 1 (omega arith) e in
      let b = longer 1 2 s _ bytes (omega arith) a in
      let c = longer 3 2 s _ bytes (omega arith) b in
      let d = longer 5 8 s _ bytes (omega arith) c in
      let f = longer 13 4 s _ bytes (omega arith) d in
      let g = longer 17 8 s _ bytes (omega arith) f in
      let h = longer 25 8 s _ bytes (omega arith) g in
      let i = longer 33 8 s _ bytes (omega arith) h in
      let front = (1 ∷ []) ++ digits 2 (number_at 2 1 s) ++ digits 2 (number_at 2 3 s) in
      let file = append_assoc front (digits 8 (number_at 8 5 s)) (digits 4 (number_at 4 13 s)) in
      ap (λ (xs : List ℕ). xs ++ digits 8 (number_at 8 17 s) ++ digits 8 (number_at 8 25 s) ++ digits 8 (number_at 8 33 s)) (sym file)
      ∙ i ∙ take_all width s (omega arith)

pub zeroes_are : (s : List ℕ) → all_zero s ≡ true → s ≡ replicate (length s) 0
unfolding all_zero all_of
zeroes_are [] e = refl
zeroes_are (x ∷ xs) e = go (eqb x 0) refl e (zeroes_are xs)
  where
    go : (b : Bool) → eqb x 0 ≡ b → cond b (all_of (λ y. eqb y 0) xs) false ≡ true → (all_of (λ y. eqb y 0) xs ≡ true → xs ≡ replicate (length xs) 0)
        → x ∷ xs ≡ 0 ∷ replicate (length xs) 0
    go true q e later = ap₂ {C = List ℕ} (λ (y : ℕ) (l : List ℕ). y ∷ l) (eqb-true x 0 q) (later e)
    go false q e later = absurd (differ (sym e))

pub blank_kind : (s : List ℕ) → all_zero s ≡ true → kind_of s ≡ 0
unfolding kind_of
blank_kind s e = go s (zeroes_are s e)
  where
    go : (s : List ℕ) → s ≡ replicate (length s) 0 → get_or s 0 0 ≡ 0
    go [] e = refl
    go (x ∷ xs) e = ap (λ (l : List ℕ). get_or l 0 0) e

-- what a well-formed slot tells
pub data Formed (top next : ℕ) (s : List ℕ) : Type 0 where
  blank : all_zero s ≡ true → Formed top next s
  token : kind_of s ≡ 1 → is_token top next (number_at 8 33 s) (claim_of s) ≡ true → Formed top next s

module _ (top next : ℕ) (s : List ℕ) (e : is_slot top next s ≡ true) where
  pub slot_size : length s ≡ width
  unfolding is_slot
  slot_size = eqb-true (length s) width (and_left (eqb (length s) width) _ e)

  pub formed : Formed top next s
  unfolding is_slot
  formed = go (all_zero s) refl (and_right (eqb (length s) width) _ e)
    where
      go : (b : Bool) → all_zero s ≡ b → (b || (eqb (kind_of s) 1 && is_token top next (number_at 8 33 s) (claim_of s))) ≡ true → Formed top next s
      go true q r = blank q
      go false q r =
          token (eqb-true (kind_of s) 1 (and_left (eqb (kind_of s) 1) _ r)) (and_right (eqb (kind_of s) 1) (is_token top next (number_at 8 33 s) (claim_of s)) r)

  pub slot_spelled : Bytes s → slot_bytes (slot_of s) ≡ s
  unfolding slot_of slot_bytes
  slot_spelled bytes = go formed
    where
      go : Formed top next s → slot_bytes (if eqb (kind_of s) 1 then Held (number_at 8 33 s) (claim_of s) else Free) ≡ s
      go (blank q) = rw (blank_kind s q) (ap (λ (n : ℕ). replicate n 0) (sym slot_size) ∙ sym (zeroes_are s q))
      go (token q r) = rw q (token_spelled s slot_size bytes q)

pub claim_fits : (s : List ℕ) → length s ≡ width → Bytes s → Fits (claim_of s)
unfolding claim_of
claim_fits s size bytes = record {
  types = number_fits s bytes 1 2 (omega arith);
  host = number_fits s bytes 3 2 (omega arith);
  hi = number_fits s bytes 5 8 (omega arith);
  lo = number_fits s bytes 13 4 (omega arith);
  first = number_fits s bytes 17 8 (omega arith);
  last = number_fits s bytes 25 8 (omega arith);
}
