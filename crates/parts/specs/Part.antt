-- Return takes a range as well: what it leaves of a token's claim.
use Rattle.std.specs.Prelude.{◌≡◌, Option, None, Some, Bool, not, ◌||◌, ◌&&◌, List, [], ◌∷◌, ◌++◌, ℕ, ◌+◌, ◌-◌, eqb, leb, ltb, if◌then◌else◌}
use Rattle.words.specs.Said.{Said, done, refused}
use Rattle.words.specs.Refusal.{refusal_says}
use Rattle.words.specs.declared.refusal.Refusal.{Refusal}
use Rattle.claims.specs.Types.{without, lacks}
use Rattle.claims.specs.Claim.{with_types, with_range}
use Rattle.claims.specs.Rule.{some_cover}
use Rattle.claims.specs.declared.claim.Claim.{Claim}
use Rattle.parts.specs.declared.losing.Kept.{Kept}
use Rattle.parts.specs.declared.losing.Kept.TheVariants.{Nothing, One, Two}

-- the range is the token's own
unfoldable pub is_whole : ℕ → ℕ → Claim → Bool
is_whole first last held = eqb first held.first && eqb last held.last

-- no byte is outside the token's range, and the token holds only data and lock types and all of them are named
unfoldable pub is_part : ℕ → ℕ → ℕ → Claim → Bool
is_part types first last held = leb held.first first && leb last held.last && eqb types held.types && not (some_cover types)

unfoldable pub is_givable : ℕ → ℕ → ℕ → Claim → Bool
is_givable types first last held = is_whole first last held || is_part types first last held

-- 37, 38
unfoldable pub first_refusal : Bool → Bool → Said
first_refusal lacking fits =
    if lacking then refused 37 [] else
    if not fits then refused 38 [] else
    done []

unfoldable pub loss_says : ℕ → ℕ → ℕ → Claim → Said
loss_says types first last held = first_refusal (lacks held.types types) (is_givable types first last held)

-- of the whole range the types that are not named stay
unfoldable pub types_left : ℕ → Claim → List Claim
types_left types held = let left = without held.types types in if eqb left 0 then [] else with_types held left ∷ []

-- of a part a left remainder and a right one
unfoldable pub bytes_before : ℕ → Claim → List Claim
bytes_before first held = if ltb held.first first then with_range held held.first (first - 1) ∷ [] else []

unfoldable pub bytes_after : ℕ → Claim → List Claim
bytes_after last held = if ltb last held.last then with_range held (last + 1) held.last ∷ [] else []

unfoldable pub kept : ℕ → ℕ → ℕ → Claim → List Claim
kept types first last held = if is_whole first last held then types_left types held else bytes_before first held ++ bytes_after last held

-- no refusal, or this one
unfoldable pub unless : Option Refusal → Said
unless None = done []
unless (Some refusal) = refusal_says refusal

-- telling the refusal
pub record Refuses (types first last : ℕ) (held : Claim) (r : Option Refusal) : Type 0 where
  pub answer : unless r ≡ loss_says types first last held

-- the claims, in their order
unfoldable pub claims_in : Kept → List Claim
claims_in Nothing = []
claims_in (One claim) = claim ∷ []
claims_in (Two left right) = left ∷ right ∷ []

-- telling what stays
pub record Stays (types first last : ℕ) (held : Claim) (r : Kept) : Type 0 where
  pub answer : claims_in r ≡ kept types first last held
