-- Two outcomes that meet a statement are equal. Assumes nothing.
use Rattle.std.specs.Prelude.{if◌then◌else◌}
use mathlib.Core.Path.{◌≡◌, refl, sym, ◌∙◌}
use mathlib.Core.Bool.{Bool}
use mathlib.Core.List.{List}
use Prim.Native.Nat.{ℕ}
use lib.Dec.{eqb}
use lib.ListN.{get_or}
use Rattle.words.specs.Said.{Said, done, refused}
use Rattle.words.proofs.Determined.{same_answer}
use Rattle.table.specs.Layout.{slot_of, slot_says, ReadsSlot, SkipsHeader}
use Rattle.table.specs.Form.{TellsLength, TellsOpening, TellsSlot, TellsForm}
use Rattle.table.specs.declared.slot.Slot.{Slot}
use Rattle.table.specs.declared.slot.Slot.TheVariants.{Free, Held}

pub is_length_determined : (n : ℕ) (r r' : Bool) → TellsLength n r → TellsLength n r' → r ≡ r'
is_length_determined n r r' p q = p.answer ∙ sym q.answer

pub opens_determined : (bytes : List ℕ) (r r' : Bool) → TellsOpening bytes r → TellsOpening bytes r' → r ≡ r'
opens_determined bytes r r' p q = p.answer ∙ sym q.answer

pub is_slot_determined : (slot : List ℕ) (top next : ℕ) (r r' : Bool) → TellsSlot slot top next r → TellsSlot slot top next r' → r ≡ r'
is_slot_determined slot top next r r' p q = p.answer ∙ sym q.answer

pub well_formed_determined : (bytes : List ℕ) (r r' : Bool) → TellsForm bytes r → TellsForm bytes r' → r ≡ r'
well_formed_determined bytes r r' p q = p.answer ∙ sym q.answer

pub after_header_determined : (bytes r r' : List ℕ) → SkipsHeader bytes r → SkipsHeader bytes r' → r ≡ r'
after_header_determined bytes r r' p q = p.answer ∙ sym q.answer

-- a slot by its values
unfoldable slot_with : List ℕ → Slot
slot_with values =
    if eqb (get_or values 0 0) 0 then Free else
    Held (get_or values 7 0) (record {
      types = get_or values 1 0;
      host = get_or values 2 0;
      file = record { hi = get_or values 3 0; lo = get_or values 4 0 };
      first = get_or values 5 0;
      last = get_or values 6 0;
    })

-- the slot that says what was said
unfoldable saying : Said → Slot
saying (done values) = slot_with values
saying (refused number values) = Free

saying_of : (r : Slot) → saying (slot_says r) ≡ r
unfolding saying slot_with slot_says
saying_of Free = refl
saying_of (Held number claim) = refl

pub read_slot_determined : (slot : List ℕ) (r r' : Slot) → ReadsSlot slot r → ReadsSlot slot r' → r ≡ r'
read_slot_determined slot r r' p q = same_answer slot_says saying saying_of r r' p.answer q.answer

-- so a slot is what its bytes mean
pub slot_is : {slot : List ℕ} {r : Slot} → ReadsSlot slot r → r ≡ slot_of slot
slot_is {slot = slot} {r = r} p = read_slot_determined slot r (slot_of slot) p (record { answer = refl })
