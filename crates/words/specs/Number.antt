-- Numbers in bytes: big-endian throughout, the first byte is the highest.
use Rattle.std.specs.Prelude.{◌≡◌, Bool, true, false, cond, ◌||◌, ◌&&◌, List, [], ◌∷◌, ℕ, ◌+◌, ◌*◌, ◌<◌, leb, ltb, eqb, length, get_or, take, drop}

-- a list of bytes: what a lent slice of u8 always holds
abbrev pub Bytes : List ℕ → Type 0
Bytes bytes = (i : ℕ) → get_or bytes i 0 < 256

-- the number that bytes spell, after higher ones that spelled n
unfoldable pub number_from : ℕ → List ℕ → ℕ
number_from n [] = n
number_from n (b ∷ bs) = number_from (n * 256 + b) bs

abbrev pub number : List ℕ → ℕ
number bytes = number_from 0 bytes

-- the bytes of a width at a place
abbrev pub part : ℕ → ℕ → List ℕ → List ℕ
part at width bytes = take width (drop at bytes)

-- they are all there
unfoldable pub within : ℕ → ℕ → List ℕ → Bool
within at width bytes = leb (at + width) (length bytes)

-- the number that they spell; 0 where they are not all there
unfoldable pub number_at : ℕ → ℕ → List ℕ → ℕ
number_at width at bytes = cond (within at width bytes) (number (part at width bytes)) 0

-- telling whether the bytes of a width at a place are all there
pub record TellsWithin (width : ℕ) (bytes : List ℕ) (at : ℕ) (r : Bool) : Type 0 where
  pub answer : r ≡ within at width bytes

-- what stands for a number whose bytes are not all there
pub record StandsForNone (r : ℕ) : Type 0 where
  pub answer : r ≡ 0

-- reading a number of some width
pub record ReadsNumber (width : ℕ) (bytes : List ℕ) (at : ℕ) (r : ℕ) : Type 0 where
  pub answer : r ≡ number_at width at bytes

-- a is below b, or it is b and the lower places say so
abbrev pub less : ℕ → ℕ → Bool → Bool
less a b lower = ltb a b || (eqb a b && lower)

-- the order of bytes: the first that differs decides
unfoldable pub before : List ℕ → List ℕ → Bool
before [] [] = false
before [] (y ∷ ys) = true
before (x ∷ xs) [] = false
before (x ∷ xs) (y ∷ ys) = less x y (before xs ys)
