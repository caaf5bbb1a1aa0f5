-- One statement for all that turns what C gives into a call's own types, and what a call says into C's answer.
use Rattle.std.specs.Prelude.{◌≡◌}

-- giving what is meant
pub record Means {A : Type 0} (meant r : A) : Type 0 where
  pub answer : r ≡ meant
