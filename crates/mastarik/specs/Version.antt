-- Which library this is.
use Rattle.std.specs.Prelude.{◌≡◌, ℕ}

-- 2.0.0: ten thousands, hundreds, ones
abbrev pub version : ℕ
version = 20000

-- telling the version
pub record TellsVersion (r : ℕ) : Type 0 where
  pub answer : r ≡ version
