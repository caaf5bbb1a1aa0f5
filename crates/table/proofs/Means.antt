-- The bytes of a table in order are well formed and mean that table. Assumes nothing.
use Rattle.std.specs.Prelude.{if◌then◌else◌}
use mathlib.Core.Path.{◌≡◌, refl, ◌∙◌, ap, ap₂}
use mathlib.Core.Bool.{Bool, true, false, not, ◌||◌, ◌&&◌}
use mathlib.Core.List.{List, [], ◌∷◌, ◌++◌, map, append_assoc}
use Prim.Native.Nat.{ℕ, ◌*◌, ◌%◌, ◌^◌, ◌≤◌, ◌<◌}
use native.Mathlib.Omega.{arith}
use borrow.Author.Tests.{eqb-false, ne_eqb, eq-eqb, le-leb, not-true, ltb-true, ltb-false}
use lib.Dec.{eqb, leb, ltb}
use lib.ListN.{length, get_or, drop, replicate, length-map}
use lib.Seq.{take_at, drop_at}
use Rattle.words.specs.Test.{all_of}
use Rattle.words.specs.Number.{Bytes, number, part, number_at}
use Rattle.words.specs.Writing.{digits}
use Rattle.words.proofs.Tests.{Each, each_at, each_all, and_left, and_right, and_both, or_left, or_right}
use Rattle.words.proofs.Written.{number_again, number_fits}
use Rattle.claims.specs.Claim.{unfit, malformed}
use Rattle.claims.specs.declared.claim.Claim.{Claim}
use Rattle.table.specs.Table.{Table, limit}
use Rattle.table.specs.Layout.{width, Fits, kind_of, claim_of, slot_of, field_bytes, slot_bytes, cut, count, slots_in, next_in, header_bytes, table_of, joined, bytes_of}
use Rattle.table.specs.Form.{is_length, all_zero, is_header, is_token, is_slot, opening, well_formed}
use Rattle.table.specs.declared.slot.Slot.{Slot}
use Rattle.table.specs.declared.slot.Slot.TheVariants.{Free, Held}
use Rattle.table.proofs.Widths.{field_length, slot_length}
use Rattle.table.proofs.Cuts.{cut_length}
use Rattle.table.proofs.Spelled.{Formed, blank, token, formed, slot_size, claim_again, field_again, kind_again, token_again, free_again, claim_fits, blank_kind}
use Rattle.table.proofs.Tables.{header_length, bytes_length, cut_bytes, drop_bytes, form_size, form_header, form_slots}

-- a slot in order: free, or a token whose numbers are as wide as the bytes
unfoldable pub Ordered : ℕ → ℕ → Slot → Type 0
Ordered top next Free = Unit {0}
Ordered top next (Held number claim) = (is_token top next number claim ≡ true) × Fits claim

-- a table in order
pub record InOrder (t : Table) : Type 0 where
  pub some : 1 ≤ length t.slots
  pub few : length t.slots ≤ 1024
  pub begun : 1 ≤ t.next
  pub wide : t.next < 256 ^ 8
  pub slots : Each (Ordered (limit t) t.next) t.slots

-- a token's number is below next
pub below_next : (top next number : ℕ) (claim : Claim) → is_token top next number claim ≡ true → number < next
unfolding is_token
below_next top next number claim e = ltb-true number next (and_right (not (malformed claim top) && ltb 0 number) (ltb number next) e)

module _ (top next : ℕ) (wide : next < 256 ^ 8) where
  slot_again : (slot : Slot) → Ordered top next slot → slot_of (slot_bytes slot) ≡ slot
  unfolding Ordered
  slot_again Free o = free_again
  slot_again (Held number claim) o =
      let h : number < 256 ^ 8 = omega (arith, below_next top next number claim o.0) in token_again number claim h o.1

  slot_formed : (slot : Slot) → Ordered top next slot → is_slot top next (slot_bytes slot) ≡ true
  unfolding Ordered is_slot slot_bytes all_zero all_of
  slot_formed Free o = refl
  slot_formed (Held number claim) o =
      let h : number < 256 ^ 8 = omega (arith, below_next top next number claim o.0) in
      rw (field_length 1 number claim, kind_again 1 number claim, claim_again 1 number claim o.1, field_again 1 number claim h, o.0)
      (either_way (all_of (λ b. eqb b 0) (field_bytes 1 number claim)))
    where
      either_way : (b : Bool) → (b || true) ≡ true
      either_way true = refl
      either_way false = refl

  slots_formed : (slots : List Slot) → Each (Ordered top next) slots → Each (λ p. is_slot top next p ≡ true) (map slot_bytes slots)
  unfolding Each
  slots_formed [] o = tt
  slots_formed (s ∷ ss) o = (slot_formed s o.0, slots_formed ss o.1)

  slots_again : (slots : List Slot) → Each (Ordered top next) slots → map slot_of (map slot_bytes slots) ≡ slots
  unfolding Each
  slots_again [] o = refl
  slots_again (s ∷ ss) o = ap₂ {C = List Slot} (λ (x : Slot) (xs : List Slot). x ∷ xs) (slot_again s o.0) (slots_again ss o.1)

joined_cut : (slots : List Slot) → cut (length slots) (joined (map slot_bytes slots)) ≡ map slot_bytes slots
unfolding cut joined
joined_cut [] = refl
joined_cut (s ∷ ss) =
    ap₂ {C = List (List ℕ)} (λ (x : List ℕ) (xs : List (List ℕ)). x ∷ xs)
    (take_at (slot_bytes s) (joined (map slot_bytes ss)) width (slot_length s))
    (ap (cut (length ss)) (drop_at (slot_bytes s) (joined (map slot_bytes ss)) width (slot_length s)) ∙ joined_cut ss)

module _ (t : Table) (o : InOrder t) where
  counted : count (bytes_of t) ≡ length t.slots
  counted = omega (arith, bytes_length t)

  cut_again : slots_in (bytes_of t) ≡ map slot_bytes t.slots
  unfolding slots_in bytes_of
  cut_again =
      rw counted
      (ap (cut (length t.slots)) (drop_at (header_bytes t.next) (joined (map slot_bytes t.slots)) width (header_length t.next)) ∙ joined_cut t.slots)

  next_again : next_in (bytes_of t) ≡ t.next
  unfolding next_in bytes_of header_bytes
  next_again =
      ap (number_at 8 33) (append_assoc ((2 ∷ []) ++ replicate 32 0) (digits 8 t.next) (joined (map slot_bytes t.slots)))
      ∙ number_again ((2 ∷ []) ++ replicate 32 0) (joined (map slot_bytes t.slots)) 33 8 t.next refl o.wide

  -- the bytes of a table in order mean it
  pub table_bytes : table_of (bytes_of t) ≡ t
  unfolding table_of
  table_bytes =
      (λ k. record { slots = map slot_of (cut_again k); next = next_again k })
      ∙ ap (λ (slots : List Slot). record { slots = slots; next = t.next }) (slots_again (limit t) t.next o.wide t.slots o.slots)

  good_length : is_length (length (bytes_of t)) ≡ true
  unfolding is_length
  good_length =
      let n = length (bytes_of t) in
      and_both (eqb (n % width) 0 && leb (width * 2) n) (leb n (width * 1025))
      (and_both (eqb (n % width) 0) (leb (width * 2) n) (eq-eqb (n % width) 0 (omega (arith, bytes_length t))) (le-leb (width * 2) n (omega (arith, bytes_length t, o.some))))
      (le-leb n (width * 1025) (omega (arith, bytes_length t, o.few)))

  good_front : (eqb (kind_of (bytes_of t)) 2 && all_zero (part 1 32 (bytes_of t))) ≡ true
  unfolding kind_of all_zero all_of bytes_of header_bytes
  good_front = refl

  good_header : is_header (bytes_of t) ≡ true
  unfolding is_header
  good_header =
      and_both (eqb (kind_of (bytes_of t)) 2 && all_zero (part 1 32 (bytes_of t))) _ good_front
      (rw (next_again, ne_eqb t.next 0 (λ e. let h = o.begun in omega arith)) refl)

  -- and are well formed
  pub bytes_formed : well_formed (bytes_of t) ≡ true
  unfolding well_formed opening
  bytes_formed =
      and_both (is_length (length (bytes_of t)) && is_header (bytes_of t)) _ (and_both (is_length (length (bytes_of t))) (is_header (bytes_of t)) good_length good_header)
      (rw (table_bytes, next_again, cut_again) (each_all (is_slot (limit t) t.next) (map slot_bytes t.slots) (slots_formed (limit t) t.next o.wide t.slots o.slots)))

-- the table that well-formed bytes mean is in order
slots_ordered : (top next : ℕ) (pieces : List (List ℕ)) → Each (λ p. is_slot top next p ≡ true) pieces → Each Bytes pieces → Each (Ordered top next) (map slot_of pieces)
unfolding Each Ordered slot_of
slots_ordered top next [] e h = tt
slots_ordered top next (p ∷ ps) e h = (go (formed top next p e.0), slots_ordered top next ps e.1 h.1)
  where
    go : Formed top next p → Ordered top next (if eqb (kind_of p) 1 then Held (number_at 8 33 p) (claim_of p) else Free)
    go (blank q) = rw (blank_kind p q) tt
    go (token q r) = rw q (r, claim_fits p (slot_size top next p e.0) h.0)

pub ordered : (bytes : List ℕ) → Bytes bytes → well_formed bytes ≡ true → InOrder (table_of bytes)
unfolding table_of slots_in next_in is_header
ordered bytes h e =
    let size = form_size bytes e in
    let whole = size.whole in
    let begun : 1 ≤ number_at 8 33 bytes = omega (arith, eqb-false (number_at 8 33 bytes) 0 (not-true (eqb (number_at 8 33 bytes) 0) (and_right (eqb (kind_of bytes) 2 && all_zero (part 1 32 bytes)) _ (form_header bytes e)))) in
    record {
      some = rw (length-map (cut (count bytes) (drop width bytes)) slot_of, cut_length (count bytes) (drop width bytes)) size.some;
      few = rw (length-map (cut (count bytes) (drop width bytes)) slot_of, cut_length (count bytes) (drop width bytes)) size.few;
      begun = begun;
      wide = number_fits bytes h 33 8 (omega arith);
      slots = slots_ordered (limit (table_of bytes)) (next_in bytes) (slots_in bytes) (form_slots bytes e) (cut_bytes (count bytes) (drop width bytes) (drop_bytes width bytes h));
    }

-- any of its slots is in order
pub order_at : (t : Table) → InOrder t → (i : ℕ) → Ordered (limit t) t.next (get_or t.slots i Free)
unfolding Ordered
order_at t o i = each_at (Ordered (limit t) t.next) t.slots Free o.slots tt i

-- a token in order is of a claim that is not malformed, so it has few types
pub token_shaped : (top next number : ℕ) (claim : Claim) → Ordered top next (Held number claim) → malformed claim top ≡ false
unfolding Ordered is_token
token_shaped top next number claim o =
    not-true (malformed claim top) (and_left (not (malformed claim top)) (ltb 0 number) (and_left (not (malformed claim top) && ltb 0 number) (ltb number next) o.0))

pub types_small : (top next number : ℕ) (claim : Claim) → Ordered top next (Held number claim) → claim.types ≤ top
unfolding malformed unfit
types_small top next number claim o =
    ltb-false top claim.types (or_right (eqb claim.host 0 || eqb claim.types 0) (ltb top claim.types) (or_left (eqb claim.host 0 || eqb claim.types 0 || ltb top claim.types) (ltb claim.last claim.first) (token_shaped top next number claim o)))

-- read again, any of its slots is what it was
pub again_at : (t : Table) → InOrder t → (i : ℕ) → slot_of (slot_bytes (get_or t.slots i Free)) ≡ get_or t.slots i Free
again_at t o i = slot_again (limit t) t.next o.wide (get_or t.slots i Free) (order_at t o i)
