-- A needed right is missing, or none is. Assumes nothing.
use mathlib.Core.Path.{◌≡◌, refl}
use mathlib.Core.Logic.{◌≢◌}
use Prim.Native.Nat.{ℕ}
use borrow.Author.Tests.{eq-eqb, ne_eqb}
use lib.Bits.{bit_and}
use Rattle.std.specs.Prelude.{Ok, Err}
use Rattle.words.specs.Refusal.{says_by, plain_says, refusal_says, refusal_number, refusal_value, values_in}
use Rattle.words.specs.declared.refusal.Refusal.TheVariants.{RightMissing}
use Rattle.access.specs.Access.{sufficient}

module _ (rights needs : ℕ) where
  pub missing : bit_and rights needs ≢ needs → plain_says (Err RightMissing) ≡ sufficient rights needs
  unfolding says_by refusal_says refusal_number refusal_value values_in sufficient
  missing e = rw (ne_eqb (bit_and rights needs) needs e) refl

  pub enough : bit_and rights needs ≡ needs → plain_says (Ok tt) ≡ sufficient rights needs
  unfolding says_by sufficient
  enough e = rw (eq-eqb (bit_and rights needs) needs e) refl
