-- Reading a number where its bytes are all there, and where they are not. Assumes nothing.
use mathlib.Core.Path.{◌≡◌, refl, sym, ◌∙◌}
use mathlib.Core.Bool.{Bool, true, false}
use mathlib.Core.List.{List}
use Prim.Native.Nat.{ℕ, ◌+◌, ◌≤◌}
use lib.ListN.{length}
use Rattle.words.specs.Number.{number, part, within, number_at, TellsWithin, ReadsNumber}
use Rattle.words.proofs.Digits.{fits}

module _ {width wide at : ℕ} {bytes : List ℕ} {b : Bool} (same : wide ≡ width) (told : TellsWithin wide bytes at b) where
  now_told : (c : Bool) → b ≡ c → within at width bytes ≡ c
  now_told c p = rw same at (sym told.answer ∙ p)

  pub there : b ≡ true → at + width ≤ length bytes
  there p = fits at width bytes (sym (now_told true p)) refl

  pub read_there : {r : ℕ} → b ≡ true → r ≡ number (part at width bytes) → ReadsNumber width bytes at r
  unfolding number_at
  read_there p q = record { answer = rw (now_told true p) q }

  pub read_missing : {r : ℕ} → b ≡ false → r ≡ 0 → ReadsNumber width bytes at r
  unfolding number_at
  read_missing p q = record { answer = rw (now_told false p) q }
