-- Grant takes the lowest free slot, gives it the next number, which is the answer, and raises next by one.
use Rattle.std.specs.Prelude.{◌≡◌, Result, not, List, [], ◌∷◌, ℕ, eqb, if◌then◌else◌}
use Rattle.words.specs.Test.{any_of, place_of}
use Rattle.words.specs.Said.{Said, done, refused, and_then}
use Rattle.words.specs.Refusal.{number_says}
use Rattle.words.specs.declared.refusal.Refusal.{Refusal}
use Rattle.claims.specs.Claim.{malformed}
use Rattle.claims.specs.declared.claim.Claim.{Claim}
use Rattle.table.specs.Table.{Table, limit, issue, is_free, is_in_the_way}
use Rattle.table.specs.Call.{says_of, left_of}

-- this number is never given
unfoldable pub last_number : ℕ
last_number = 18446744073709551615

-- 33 and 34, of room and numbers
unfoldable pub room_says : Table → Said
room_says t =
    if not (any_of is_free t.slots) then refused 33 [] else
    if eqb t.next last_number then refused 34 [] else
    done (t.next ∷ [])

module _ (claim : Claim) where
  -- 31, of the request alone
  unfoldable pub request_says : Table → Said
  request_says t = if malformed claim (limit t) then refused 31 [] else done []

  -- grant's own: 32, 33, 34
  unfoldable pub serve_says : Table → Said
  serve_says t =
      if any_of (is_in_the_way claim) t.slots then refused 32 [] else
      room_says t

  unfoldable pub grant_says : Table → Said
  grant_says t = and_then (request_says t) (serve_says t)

  unfoldable pub granted : Table → Table
  granted t = issue t (place_of is_free t.slots) claim

-- granting a token
pub record Grants (bytes : List ℕ) (claim : Claim) (r : Result ℕ Refusal) (after : List ℕ) : Type 0 where
  pub answer : number_says r ≡ says_of (grant_says claim) bytes
  pub table_after : after ≡ left_of (grant_says claim) (granted claim) bytes
