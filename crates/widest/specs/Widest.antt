-- The widest range of a claim: the largest that holds the asked one and still conflicts with nobody.
use Rattle.std.specs.Prelude.{◌≡◌, Bool, not, ℕ, ◌+◌, ◌-◌, ◌≤◌, eqb, ltb, if◌then◌else◌}
use mathlib.Core.List.{foldl, Memᴰ}
use Rattle.claims.specs.Claim.{with_range}
use Rattle.claims.specs.Rule.{conflict}
use Rattle.claims.specs.declared.claim.Claim.{Claim}
use Rattle.table.specs.Table.{Table}
use Rattle.table.specs.declared.slot.Slot.{Slot}
use Rattle.table.specs.declared.slot.Slot.TheVariants.{Free, Held}
use Rattle.widest.specs.declared.range.Range.{Range}

-- a range's last byte is at most this one
abbrev pub last_byte : ℕ
last_byte = 18446744073709551615

-- a range that holds the asked one, with which the claim conflicts with no token
pub record Serves (t : Table) (claim : Claim) (first last : ℕ) : Type 0 where
  pub holds : (first ≤ claim.first) × (claim.last ≤ last)
  pub ends : last ≤ last_byte
  pub with_nobody : (number : ℕ) (held : Claim) → Memᴰ (Held number held) t.slots → conflict held (with_range claim first last) ≡ 0

-- and every such range lies within it
pub record Widest (t : Table) (claim : Claim) (first last : ℕ) : Type 0 where
  pub serves : Serves t claim first last
  pub largest : (f l : ℕ) → Serves t claim f l → (first ≤ f) × (l ≤ last)

-- the later of two bytes, and the earlier
unfoldable pub later : ℕ → ℕ → ℕ
later m n = if ltb m n then n else m

unfoldable pub earlier : ℕ → ℕ → ℕ
earlier m n = if ltb n m then n else m

-- a token that is in the way of the claim over all bytes
unfoldable pub is_rival : Claim → Claim → Bool
is_rival claim held = not (eqb (conflict held (with_range claim 0 last_byte)) 0)

-- a token's bytes leave the side on which the asked ones are
unfoldable pub beside : Claim → Claim → Claim → Claim
beside asked wide held =
    if ltb held.last asked.first then with_range asked (later wide.first (held.last + 1)) wide.last else
    if ltb asked.last held.first then with_range asked wide.first (earlier wide.last (held.first - 1)) else
    wide

-- computed: what all rivals leave of all bytes, so the nearest one on either side bounds
unfoldable pub narrowed : Claim → Claim → Slot → Claim
narrowed asked wide Free = wide
narrowed asked wide (Held number held) = if is_rival asked held then beside asked wide held else wide

unfoldable pub widened : Claim → Table → Claim
widened claim t = foldl (narrowed claim) (with_range claim 0 last_byte) t.slots

-- a claim over a range
abbrev pub over : Claim → Range → Claim
over claim range = with_range claim range.first range.last

-- giving a claim another range
pub record Ranges (claim : Claim) (range : Range) (r : Claim) : Type 0 where
  pub answer : r ≡ over claim range

-- telling whether a token is a rival
pub record TellsRival (held claim : Claim) (r : Bool) : Type 0 where
  pub answer : r ≡ is_rival claim held

-- telling what a token leaves of a range
pub record Leaves (asked : Claim) (range : Range) (held : Claim) (r : Range) : Type 0 where
  pub answer : over asked r ≡ beside asked (over asked range) held
