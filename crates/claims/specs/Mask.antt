-- Contracts of the crate's own functions: the rule by masks.
use Rattle.std.specs.Prelude.{Bool, ◌||◌, ◌&&◌, ℕ, eqb}
use Rattle.words.specs.Bit.{bit}
use Rattle.claims.specs.Types.{types_where, some_type}
use Rattle.claims.specs.Rule.{family, is_second, covers_file}

-- the types that conflict by family with a type of a set
unfoldable pub against : ℕ → ℕ
against types = types_where (λ i. some_type (λ j. bit j types && (eqb (family i) (family j) && (is_second i || is_second j))))

-- the types that conflict where ranges overlap, or where they do not
unfoldable pub reach : Bool → ℕ
reach overlapping = types_where (λ i. covers_file i || overlapping)
