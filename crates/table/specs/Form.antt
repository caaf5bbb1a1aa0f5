-- Well formed: length and bytes as the layout says, types 1 to 255, host not 0, first at most last, number from 1 to next minus 1; next not 0.
use Rattle.std.specs.Prelude.{◌≡◌, Bool, not, ◌||◌, ◌&&◌, List, ℕ, ◌*◌, ◌%◌, eqb, leb, ltb, length}
use Rattle.words.specs.Test.{all_of}
use Rattle.words.specs.Number.{part, number_at}
use Rattle.claims.specs.Claim.{malformed}
use Rattle.claims.specs.declared.claim.Claim.{Claim}
use Rattle.table.specs.Table.{limit}
use Rattle.table.specs.Layout.{width, kind_of, claim_of, slots_in, next_in, table_of}

-- 41 × (1 + n) bytes, n from 1 to 1,024
unfoldable pub is_length : ℕ → Bool
is_length n = eqb (n % width) 0 && leb (width * 2) n && leb n (width * 1025)

unfoldable pub all_zero : List ℕ → Bool
all_zero bytes = all_of (λ b. eqb b 0) bytes

-- header: kind 2, 32 zero bytes, next number, which is not 0
unfoldable pub is_header : List ℕ → Bool
is_header bytes = eqb (kind_of bytes) 2 && all_zero (part 1 32 bytes) && not (eqb (next_in bytes) 0)

-- types 1 to the limit, host not 0, first at most last, number from 1 to next minus 1
unfoldable pub is_token : ℕ → ℕ → ℕ → Claim → Bool
is_token top next number claim = not (malformed claim top) && ltb 0 number && ltb number next

-- kind 0 with 40 zero bytes (free), or kind 1 and a token
unfoldable pub is_slot : ℕ → ℕ → List ℕ → Bool
is_slot top next slot =
    eqb (length slot) width
    && (all_zero slot || (eqb (kind_of slot) 1 && is_token top next (number_at 8 33 slot) (claim_of slot)))

-- length and header
unfoldable pub opening : List ℕ → Bool
opening bytes = is_length (length bytes) && is_header bytes

unfoldable pub well_formed : List ℕ → Bool
well_formed bytes = opening bytes && all_of (is_slot (limit (table_of bytes)) (next_in bytes)) (slots_in bytes)

-- telling whether so many bytes can be a table
pub record TellsLength (n : ℕ) (r : Bool) : Type 0 where
  pub answer : r ≡ is_length n

-- telling whether length and header are well formed
pub record TellsOpening (bytes : List ℕ) (r : Bool) : Type 0 where
  pub answer : r ≡ opening bytes

-- telling whether a slot is well formed
pub record TellsSlot (slot : List ℕ) (top next : ℕ) (r : Bool) : Type 0 where
  pub answer : r ≡ is_slot top next slot

-- telling whether a table is well formed
pub record TellsForm (bytes : List ℕ) (r : Bool) : Type 0 where
  pub answer : r ≡ well_formed bytes
