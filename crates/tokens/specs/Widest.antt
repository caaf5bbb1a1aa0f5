-- The widest grant: refused where and as grant is; else the token has the largest range that holds the asked one and still conflicts with nobody,
-- and the answer is its number, first and last byte.
use Rattle.std.specs.Prelude.{◌≡◌, true, Result, List, [], ◌∷◌, ◌++◌, ℕ}
use Rattle.words.specs.Said.{Said, done, refused, is_done}
use Rattle.words.specs.Refusal.{says_by}
use Rattle.words.specs.declared.refusal.Refusal.{Refusal}
use Rattle.claims.specs.Claim.{with_range}
use Rattle.claims.specs.declared.claim.Claim.{Claim}
use Rattle.table.specs.Table.{Table}
use Rattle.table.specs.Layout.{table_of}
use Rattle.table.specs.Call.{says_of, left_of}
use Rattle.widest.specs.Widest.{Widest}
use Rattle.tokens.specs.declared.granting.Granted.{Granted}
use Rattle.tokens.specs.Grant.{grant_says, granted}

-- what is said, with more values where it is done
unfoldable pub with_more : List ℕ → Said → Said
with_more more (done values) = done (values ++ more)
with_more more (refused number values) = refused number values

-- what a grant becomes with the widest range: this is said, and these bytes are left
pub record Widened (says : Table → Said) (bytes : List ℕ) (claim : Claim) (said : Said) (after : List ℕ) : Type 0 where
  pub first : ℕ
  pub last : ℕ
  pub widest : is_done (says_of says bytes) ≡ true → Widest (table_of bytes) claim first last
  pub answer : said ≡ with_more (first ∷ last ∷ []) (says_of says bytes)
  pub table_after : after ≡ left_of says (granted (with_range claim first last)) bytes

-- the number, first and last byte
abbrev pub widest_says : Result Granted Refusal → Said
widest_says = says_by (λ granted. granted.number ∷ granted.range.first ∷ granted.range.last ∷ [])

-- granting a token with the widest range
pub record GrantsWidest (bytes : List ℕ) (claim : Claim) (r : Result Granted Refusal) (after : List ℕ) : Type 0 where
  pub outcome : Widened (grant_says claim) bytes claim (widest_says r) after
