-- The kinds of records, and all that depends on a record's kind.
use Rattle.std.specs.Prelude.{Bool, not, ◌&&◌, List, [], ◌∷◌, ℕ, ◌+◌, eqb, ltb, leb, get_or}

-- how many bytes of a body are its realm, its id and its rights; they stand in this order
pub record Body : Type 0 where
  pub realm : ℕ
  pub id : ℕ
  pub rights : ℕ

unfoldable pub body : ℕ → ℕ → ℕ → Body
body realm id rights = record { realm = realm; id = id; rights = rights }

-- 01's table, by kind
unfoldable pub bodies : List Body
bodies =
    -- 0: there is no such kind
    body 0 0 0
    -- 1: default realm
    ∷ body 16 0 0
    -- 2, 3, 4: user_obj, group_obj, other_obj
    ∷ body 0 0 1
    ∷ body 0 0 1
    ∷ body 0 0 1
    -- 5, 6: mask_obj, any_other
    ∷ body 0 0 1
    ∷ body 0 0 1
    -- 7, 8: user, group
    ∷ body 0 4 1
    ∷ body 0 4 1
    -- 9, 10: foreign_user, foreign_group
    ∷ body 16 4 1
    ∷ body 16 4 1
    -- 11: foreign_other
    ∷ body 16 0 1
    ∷ []

-- a kind beyond the table has no body
unfoldable pub body_of : ℕ → Body
body_of kind = get_or bodies kind (body 0 0 0)

unfoldable pub body_length : ℕ → ℕ
body_length kind = (body_of kind).realm + (body_of kind).id + (body_of kind).rights

-- a record's length: its kind's byte and its body
unfoldable pub size : ℕ → ℕ
size kind = 1 + body_length kind

-- every kind of the table has a body
unfoldable pub is_known : ℕ → Bool
is_known kind = ltb 0 (body_length kind)

-- kind 1 says the default realm; every other record with a realm is foreign
unfoldable pub is_foreign : ℕ → Bool
is_foreign kind = ltb 0 (body_of kind).realm && not (eqb kind 1)

-- kind 6 or above
unfoldable pub wants_mask : ℕ → Bool
wants_mask kind = leb 6 kind
