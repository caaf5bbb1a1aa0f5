-- Sets of types, as numbers: type i is in a set where bit i is 1.
use Rattle.std.specs.Prelude.{Bool, false, not, ◌||◌, ◌&&◌, ℕ, zero, suc, ◌+◌, ◌*◌, if◌then◌else◌}
use Rattle.words.specs.Bit.{bit}

-- how many types there are: type 0 is bit 1, data read; type 7 is bit 128, open exclusive
abbrev pub kinds : ℕ
kinds = 8

-- the set of the numbers below n that pass a test
unfoldable pub set_below : ℕ → (ℕ → Bool) → ℕ
set_below zero test = 0
set_below (suc n) test = (if test 0 then 1 else 0) + 2 * set_below n (λ i. test (suc i))

-- some number below n passes a test
unfoldable pub some_below : ℕ → (ℕ → Bool) → Bool
some_below zero test = false
some_below (suc n) test = test 0 || some_below n (λ i. test (suc i))

-- the set of the types that pass a test; some type passes it
abbrev pub types_where : (ℕ → Bool) → ℕ
types_where test = set_below kinds test

abbrev pub some_type : (ℕ → Bool) → Bool
some_type test = some_below kinds test

-- a set without the types of another
unfoldable pub without : ℕ → ℕ → ℕ
without held types = types_where (λ i. bit i held && not (bit i types))

-- some of the types are not in the set
unfoldable pub lacks : ℕ → ℕ → Bool
lacks held types = some_type (λ i. bit i types && not (bit i held))
