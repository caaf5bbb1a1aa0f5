-- The table in bytes: what bytes mean, and the bytes of a table.
use Rattle.std.specs.Prelude.{◌≡◌, List, [], ◌∷◌, ◌++◌, map, ℕ, zero, suc, ◌-◌, ◌/◌, ◌^◌, ◌<◌, eqb, length, get_or, take, drop, replicate, if◌then◌else◌}
use Rattle.words.specs.Said.{Said, done}
use Rattle.words.specs.Number.{number_at}
use Rattle.words.specs.Writing.{digits, written}
use Rattle.claims.specs.declared.claim.FileId.{FileId}
use Rattle.claims.specs.declared.claim.Claim.{Claim}
use Rattle.table.specs.Table.{Table}
use Rattle.table.specs.declared.slot.Slot.{Slot}
use Rattle.table.specs.declared.slot.Slot.TheVariants.{Free, Held}

-- the bytes of a slot, and of the header
abbrev pub width : ℕ
width = 41

unfoldable pub kind_of : List ℕ → ℕ
kind_of bytes = get_or bytes 0 0

-- after the kind: types 2, host 2, file 12, first 8, last 8, number 8
unfoldable pub claim_of : List ℕ → Claim
claim_of slot = record {
  types = number_at 2 1 slot;
  host = number_at 2 3 slot;
  file = record { hi = number_at 8 5 slot; lo = number_at 4 13 slot };
  first = number_at 8 17 slot;
  last = number_at 8 25 slot;
}

-- what the numbers of a claim always are: as wide as their bytes
pub record Fits (claim : Claim) : Type 0 where
  pub types : claim.types < 256 ^ 2
  pub host : claim.host < 256 ^ 2
  pub hi : claim.file.hi < 256 ^ 8
  pub lo : claim.file.lo < 256 ^ 4
  pub first : claim.first < 256 ^ 8
  pub last : claim.last < 256 ^ 8

-- a token where the kind is 1
unfoldable pub slot_of : List ℕ → Slot
slot_of slot = if eqb (kind_of slot) 1 then Held (number_at 8 33 slot) (claim_of slot) else Free

unfoldable pub file_bytes : FileId → List ℕ
file_bytes file = digits 8 file.hi ++ digits 4 file.lo

-- the same fields in their order
unfoldable pub field_bytes : ℕ → ℕ → Claim → List ℕ
field_bytes kind number claim =
    (kind ∷ []) ++ digits 2 claim.types ++ digits 2 claim.host ++ file_bytes claim.file
    ++ digits 8 claim.first ++ digits 8 claim.last ++ digits 8 number

-- kind 0 with 40 zero bytes, or kind 1 and its fields
unfoldable pub slot_bytes : Slot → List ℕ
slot_bytes Free = replicate width 0
slot_bytes (Held number claim) = field_bytes 1 number claim

-- the slots of bytes, one after the other
unfoldable pub cut : ℕ → List ℕ → List (List ℕ)
cut zero bytes = []
cut (suc n) bytes = take width bytes ∷ cut n (drop width bytes)

-- how many slots there are after the header
abbrev pub count : List ℕ → ℕ
count bytes = length bytes / width - 1

unfoldable pub slots_in : List ℕ → List (List ℕ)
slots_in bytes = cut (count bytes) (drop width bytes)

-- header: kind 2, 32 zero bytes, next number 8
unfoldable pub next_in : List ℕ → ℕ
next_in bytes = number_at 8 33 bytes

unfoldable pub header_bytes : ℕ → List ℕ
header_bytes next = (2 ∷ []) ++ replicate 32 0 ++ digits 8 next

-- the table that bytes mean
unfoldable pub table_of : List ℕ → Table
table_of bytes = record { slots = map slot_of (slots_in bytes); next = next_in bytes }

-- pieces one after the other
unfoldable pub joined : List (List ℕ) → List ℕ
joined [] = []
joined (piece ∷ pieces) = piece ++ joined pieces

-- the bytes of a table
unfoldable pub bytes_of : Table → List ℕ
bytes_of t = header_bytes t.next ++ joined (map slot_bytes t.slots)

-- what each slot says: its kind, and of a token its fields in their order
unfoldable pub slot_says : Slot → Said
slot_says Free = done (0 ∷ [])
slot_says (Held number claim) =
    done (1 ∷ claim.types ∷ claim.host ∷ claim.file.hi ∷ claim.file.lo ∷ claim.first ∷ claim.last ∷ number ∷ [])

-- reading a slot
pub record ReadsSlot (slot : List ℕ) (r : Slot) : Type 0 where
  pub answer : slot_says r ≡ slot_says (slot_of slot)

-- skipping the header
pub record SkipsHeader (bytes r : List ℕ) : Type 0 where
  pub answer : r ≡ drop width bytes

-- writing a slot
pub record WritesSlot (value : Slot) (slot after : List ℕ) : Type 0 where
  pub slot_after : after ≡ written 0 (slot_bytes value) slot
