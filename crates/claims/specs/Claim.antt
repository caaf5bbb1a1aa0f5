-- What a token or a request claims: types, host, file, first and last byte.
use Rattle.std.specs.Prelude.{◌≡◌, Bool, ◌||◌, ℕ, eqb, ltb}
use Rattle.claims.specs.declared.claim.Claim.{Claim}

-- the same claim with other types, and over another range
abbrev pub with_types : Claim → ℕ → Claim
with_types claim types = record { types = types; host = claim.host; file = claim.file; first = claim.first; last = claim.last }

abbrev pub with_range : Claim → ℕ → ℕ → Claim
with_range claim first last = record { types = claim.types; host = claim.host; file = claim.file; first = first; last = last }

-- host 0, types 0 or above the limit
unfoldable pub unfit : ℕ → ℕ → ℕ → Bool
unfit host types limit = eqb host 0 || eqb types 0 || ltb limit types

-- refusal 31: that, or first above last
unfoldable pub malformed : Claim → ℕ → Bool
malformed claim limit = unfit claim.host claim.types limit || ltb claim.last claim.first

-- telling whether a host or types are unfit
pub record TellsUnfit (host types limit : ℕ) (r : Bool) : Type 0 where
  pub answer : r ≡ unfit host types limit

-- telling whether a claim is malformed
pub record TellsMalformed (claim : Claim) (limit : ℕ) (r : Bool) : Type 0 where
  pub answer : r ≡ malformed claim limit
