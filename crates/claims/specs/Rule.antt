-- The rule of conflicts, and the set of conflicting types.
use Rattle.std.specs.Prelude.{◌≡◌, Bool, true, not, ◌||◌, ◌&&◌, ◌⊎◌, ◌≢◌, ℕ, ◌/◌, ◌%◌, ◌≤◌, ◌<◌, eqb, leb}
use Rattle.words.specs.Bit.{bit}
use Rattle.claims.specs.Types.{kinds, types_where, some_type}
use Rattle.claims.specs.declared.claim.FileId.{FileId}
use Rattle.claims.specs.declared.claim.Claim.{Claim}

-- each line of the paper's table is a family, of two types: data 0, status 1, lock 2, open 3
unfoldable pub family : ℕ → ℕ
family i = i / 2

unfoldable pub is_second : ℕ → Bool
is_second i = eqb (i % 2) 1

-- status and open cover the whole file whatever the range
unfoldable pub covers_file : ℕ → Bool
covers_file i = eqb (family i) 1 || eqb (family i) 3

unfoldable pub some_cover : ℕ → Bool
some_cover types = some_type (λ i. bit i types && covers_file i)

unfoldable pub same_file : FileId → FileId → Bool
same_file a b = eqb a.hi b.hi && eqb a.lo b.lo

-- first and last byte are both included
unfoldable pub overlaps : Claim → Claim → Bool
overlaps a b = leb a.first b.last && leb b.first a.last

-- type i of a conflicts with type j of b
unfoldable pub clash : Claim → Claim → ℕ → ℕ → Bool
clash a b i j =
    (not (eqb a.host b.host) && same_file a.file b.file)
    && ((eqb (family i) (family j) && (is_second i || is_second j))
    && (covers_file i || overlaps a b))

-- the conflicting types of a
unfoldable pub conflict : Claim → Claim → ℕ
conflict a b = types_where (λ i. bit i a.types && some_type (λ j. bit j b.types && clash a b i j))

-- telling whether some type of a set covers the whole file
pub record TellsCover (types : ℕ) (r : Bool) : Type 0 where
  pub answer : r ≡ some_cover types

-- telling the conflicting types
pub record Conflicts (a b : Claim) (r : ℕ) : Type 0 where
  pub answer : r ≡ conflict a b

-- the paper's sentence: "A type of one token conflicts with a type of another when hosts differ, the file is the same, both types are of one
-- family and at least one of the two is the family's second. Data and lock need overlapping ranges as well"
pub record Conflicting (a b : Claim) (i j : ℕ) : Type 0 where
  pub of_a : bit i a.types ≡ true
  pub of_b : bit j b.types ≡ true
  pub types : (i < kinds) × (j < kinds)
  pub hosts_differ : a.host ≢ b.host
  pub file_is_same : a.file ≡ b.file
  pub one_family : family i ≡ family j
  pub a_second : (is_second i ≡ true) ⊎ (is_second j ≡ true)
  pub ranges : (covers_file i ≡ true) ⊎ ((a.first ≤ b.last) × (b.first ≤ a.last))
