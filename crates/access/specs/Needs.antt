-- The rights that types need.
use Rattle.std.specs.Prelude.{◌≡◌, Bool, ◌&&◌, List, [], ◌∷◌, ℕ, eqb, get_or, if◌then◌else◌}
use Rattle.std.specs.Int.Bits.{bit_or}
use Rattle.words.specs.Bit.{bit}
use Rattle.rights.specs.Right.{read, write, control, insert, delete}
use Rattle.claims.specs.Types.{set_below, some_type}

-- the paper's column, type by type
unfoldable pub needs : List ℕ
needs =
    -- data read, data write
    read ∷ write
    -- status read, status write
    ∷ read ∷ control
    -- lock read, lock write
    ∷ read ∷ write
    -- open shared, open exclusive
    ∷ read ∷ write ∷ []

-- on a directory, what needs write needs insert and delete instead
unfoldable pub need : Bool → ℕ → ℕ
need dir i =
    let right = get_or needs i 0 in
    if dir && eqb right write then bit_or insert delete else right

-- of the six rights those that some of the types need
unfoldable pub needed : Bool → ℕ → ℕ
needed dir types = set_below 6 (λ k. some_type (λ i. bit i types && bit k (need dir i)))

-- telling what some types need
pub record Needs (types : ℕ) (dir : Bool) (r : ℕ) : Type 0 where
  pub answer : r ≡ needed dir types
