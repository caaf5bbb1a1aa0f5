-- A number's bytes, the highest first, are its digits; and they are written. Assumes nothing.
use mathlib.Core.Path.{◌≡◌, refl, ◌∙◌}
use mathlib.Core.Bool.{Bool, true, false}
use mathlib.Core.List.{List, [], ◌∷◌}
use Prim.Native.Nat.{ℕ, ◌+◌, ◌/◌, ◌%◌, ◌≤◌}
use native.Mathlib.Omega.{arith}
use lib.ListN.{length}
use Rattle.words.specs.Number.{within, TellsWithin}
use Rattle.words.specs.Writing.{digits, over, written, WritesNumber}
use Rattle.words.specs.Realm.{realm_bytes}
use Rattle.words.specs.declared.realm.Realm.{Realm}
use Rattle.words.proofs.Written.{digits_length, over_next}

module _ {b : Bool} (at width : ℕ) (piece bytes : List ℕ) (l : length piece ≡ width) (q : b ≡ within at width bytes) where
  -- a piece that has room, and one that has none
  pub has_room : b ≡ true → over at piece bytes ≡ written at piece bytes
  unfolding written
  has_room t = simp (l, ← q, t)

  pub has_none : b ≡ false → bytes ≡ written at piece bytes
  unfolding written
  has_none t = simp (l, ← q, t)

-- a number that has room, and one that has none
module _ {width wide at n : ℕ} {bytes after : List ℕ} {b : Bool} (same : wide ≡ width) (told : TellsWithin wide bytes at b) where
  pub written_there : b ≡ true → after ≡ over at (digits width n) bytes → WritesNumber width n bytes at after
  written_there p q = record { bytes_after = q ∙ has_room at width (digits width n) bytes (digits_length width n) (rw same at told.answer) p }

  pub written_nowhere : b ≡ false → after ≡ bytes → WritesNumber width n bytes at after
  written_nowhere p q = record { bytes_after = q ∙ has_none at width (digits width n) bytes (digits_length width n) (rw same at told.answer) p }

pub two_digits : (n : ℕ) → n / 256 % 256 ∷ n % 256 ∷ [] ≡ digits 2 n
unfolding digits
two_digits n = refl

pub four_digits : (n : ℕ) → n / 16777216 % 256 ∷ n / 65536 % 256 ∷ n / 256 % 256 ∷ n % 256 ∷ [] ≡ digits 4 n
unfolding digits
four_digits n =
    let a : n / 16777216 ≡ n / 256 / 256 / 256 = omega arith in
    let b : n / 65536 ≡ n / 256 / 256 = omega arith in
    rw (a, b) refl

pub eight_digits : (n : ℕ)
    → n / 72057594037927936 % 256 ∷ n / 281474976710656 % 256 ∷ n / 1099511627776 % 256 ∷ n / 4294967296 % 256
    ∷ n / 16777216 % 256 ∷ n / 65536 % 256 ∷ n / 256 % 256 ∷ n % 256 ∷ []
    ≡ digits 8 n
unfolding digits
eight_digits n =
    let a : n / 72057594037927936 ≡ n / 256 / 256 / 256 / 256 / 256 / 256 / 256 = omega arith in
    let b : n / 281474976710656 ≡ n / 256 / 256 / 256 / 256 / 256 / 256 = omega arith in
    let c : n / 1099511627776 ≡ n / 256 / 256 / 256 / 256 / 256 = omega arith in
    let d : n / 4294967296 ≡ n / 256 / 256 / 256 / 256 = omega arith in
    let e : n / 16777216 ≡ n / 256 / 256 / 256 = omega arith in
    let f : n / 65536 ≡ n / 256 / 256 = omega arith in
    rw (a, b, c, d, e, f) refl

pub stored_realm : (bytes : List ℕ) (at : ℕ) (realm : Realm) → at + 16 ≤ length bytes
    → over (at + 8) (digits 8 realm.lo) (over at (digits 8 realm.hi) bytes) ≡ over at (realm_bytes realm) bytes
unfolding realm_bytes
stored_realm bytes at realm h =
    over_next at 8 (digits 8 realm.hi) (digits 8 realm.lo) bytes (digits_length 8 realm.hi) (omega arith)
