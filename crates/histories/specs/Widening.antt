-- What the widest grant is beside the grants: of any bytes, whoever asks.
use Rattle.std.specs.Prelude.{List, ◌≡◌, ℕ, ◌≤◌, Ok, Err}
use Rattle.claims.specs.Claim.{with_range}
use Rattle.claims.specs.declared.claim.Claim.{Claim}
use Rattle.words.specs.declared.refusal.Refusal.TheVariants.{Conflict}
use Rattle.widest.specs.Widest.{last_byte}
use Rattle.tokens.specs.Grant.{Grants as GrantsUnjudged}
use Rattle.tokens.specs.Widest.{GrantsWidest as GrantsWidestUnjudged}
use Rattle.access.specs.Access.{Access}
use Rattle.desk.specs.Grant.{Grants}
use Rattle.desk.specs.Widest.{GrantsWidest}
use Rattle.histories.specs.History.{Counted, granted}

-- a range that holds the asked one and does not lie within the given one
pub record Wider (claim : Claim) (first last f l : ℕ) : Type 0 where
  pub holds : (f ≤ claim.first) × (claim.last ≤ l)
  pub ends : l ≤ last_byte
  pub not_within : (first ≤ f) × (l ≤ last) → ⊥

-- of a widest grant that is done, with a number and a range, on these bytes
pub record Widening : Type 0 where
  -- the call leaves, byte for byte, the table that a grant of the claim with the given range leaves, and that grant gives the same number
  pub as_grant : (bytes after : List ℕ) (claim : Claim) (access : Access) (number first last : ℕ) → GrantsWidest bytes claim access (Ok (granted number first last)) after
      → Grants bytes (with_range claim first last) access (Ok number) after
  pub as_grant_unjudged : (bytes after : List ℕ) (claim : Claim) (number first last : ℕ) → GrantsWidestUnjudged bytes claim (Ok (granted number first last)) after
      → GrantsUnjudged bytes (with_range claim first last) (Ok number) after
  -- access apart it would have been the same
  pub access_apart : (bytes after : List ℕ) (claim : Claim) (access : Access) (number first last : ℕ) → GrantsWidest bytes claim access (Ok (granted number first last)) after
      → GrantsWidestUnjudged bytes claim (Ok (granted number first last)) after
  -- "No wider one holding the asked one could have been granted then"
  pub no_wider : (bytes after : List ℕ) (claim : Claim) (access : Access) (number first last : ℕ) → GrantsWidest bytes claim access (Ok (granted number first last)) after
      → (f l : ℕ) → Wider claim first last f l → (r : Counted) (later : List ℕ) → Grants bytes (with_range claim f l) access r later → (r ≡ Err Conflict) × (later ≡ bytes)
  pub no_wider_unjudged : (bytes after : List ℕ) (claim : Claim) (number first last : ℕ) → GrantsWidestUnjudged bytes claim (Ok (granted number first last)) after
      → (f l : ℕ) → Wider claim first last f l → (r : Counted) (later : List ℕ) → GrantsUnjudged bytes (with_range claim f l) r later → (r ≡ Err Conflict) × (later ≡ bytes)
