-- Dropping a host, slot by slot. Assumes nothing.
use Rattle.std.specs.Prelude.{if◌then◌else◌, Ok, Err}
use mathlib.Core.Path.{◌≡◌, refl, sym, ◌∙◌, ap}
use mathlib.Core.Bool.{Bool, true, false}
use mathlib.Core.List.{List, [], ◌∷◌, ◌++◌, map, append-nil}
use mir.Val.{bool_byte}
use Prim.Native.Nat.{ℕ, suc, ◌+◌, ◌*◌, ◌≤◌, ◌<◌}
use native.Mathlib.Numerals.{add-one}
use native.Mathlib.Omega.{arith}
use borrow.Author.Tests.{eq-eqb, ne_eqb}
use lib.ListN.{length, get_or, take, drop, set, length-append, length-map, length-drop, drop_of_length-le}
use lib.Seq.{take-suc, take_all, drop-cons, set_at, append_snoc, length-take-le, get_or_at}
use Rattle.words.specs.Test.{those}
use Rattle.words.specs.Said.{done}
use Rattle.words.specs.Refusal.{refusal_number, refusal_value, values_in, refusal_says, says_by}
use Rattle.words.specs.declared.refusal.Refusal.{Refusal}
use Rattle.words.specs.declared.refusal.Refusal.TheVariants.{NotWellFormed, Malformed}
use Rattle.words.specs.Number.{Bytes, part}
use Rattle.words.specs.Writing.{over}
use Rattle.words.proofs.Tests.{map_append, counted_more}
use Rattle.words.proofs.Left.{left_whole}
use Rattle.table.specs.Table.{with_slots}
use Rattle.table.specs.Layout.{width, slot_of, slot_bytes, count, table_of, bytes_of}
use Rattle.table.specs.Form.{well_formed}
use Rattle.table.specs.Call.{says_of}
use Rattle.table.specs.declared.slot.Slot.{Slot}
use Rattle.table.specs.declared.slot.Slot.TheVariants.{Free}
use Rattle.table.proofs.Cuts.{Sized, table_length}
use Rattle.table.proofs.Tables.{form_size, bytes_table, put_bytes, bytes_at, bytes_length}
use Rattle.table.proofs.Means.{InOrder, ordered, again_at}
use Rattle.table.proofs.Calls.{ill_refused, says_well, refusing, left_by}
use Rattle.returns.specs.DropHost.{is_hosts, freed, drop_says, dropped, Drops}
use Rattle.returns.specs.Slots.{Frees, FreesAll}

-- one slot
module _ (bytes : List ℕ) (at host : ℕ) {slot : Slot} {b : Bool} (read : slot ≡ slot_of (part at width bytes)) (told : b ≡ is_hosts host slot) where
  pub not_freed : b ≡ false → Frees bytes at host false bytes
  not_freed e = record { answer = rw (← read, ← told, e) refl; table_after = rw (← read, ← told, e) refl }

  pub freed_one : b ≡ true → {after : List ℕ} → after ≡ over at (slot_bytes Free) bytes → Frees bytes at host true after
  freed_one e p = record { answer = rw (← read, ← told, e) refl; table_after = p ∙ rw (← read, ← told, e) refl }

-- a list of which the first i elements are changed
unfoldable pub halfway : {A : Type 0} → (A → A) → ℕ → List A → List A
halfway f i xs = map f (take i xs) ++ drop i xs

module _ {A : Type 0} (f : A → A) (i : ℕ) (xs : List A) (d : A) (h : i < length xs) where
  half_length : length (map f (take i xs)) ≡ i
  half_length = length-map (take i xs) f ∙ length-take-le i xs (omega arith)

  half_at : halfway f i xs ≡ map f (take i xs) ++ get_or xs i d ∷ drop (suc i) xs
  unfolding halfway
  half_at = ap (λ (ys : List A). map f (take i xs) ++ ys) (drop-cons xs i d h)

  half_more : halfway f (i + 1) xs ≡ map f (take i xs) ++ f (get_or xs i d) ∷ drop (suc i) xs
  unfolding halfway
  half_more =
      ap (λ (k : ℕ). map f (take k xs) ++ drop k xs) (add-one i)
      ∙ ap (λ (ys : List A). map f ys ++ drop (suc i) xs) (take-suc xs i d h)
      ∙ ap (λ (ys : List A). ys ++ drop (suc i) xs) (map_append f (take i xs) (get_or xs i d ∷ []))
      ∙ append_snoc (map f (take i xs)) (f (get_or xs i d)) (drop (suc i) xs)

  half_set : (x : A) → x ≡ f (get_or xs i d) → set (halfway f i xs) i x ≡ halfway f (i + 1) xs
  half_set x e = ap (λ (ys : List A). set ys i x) half_at ∙ set_at (map f (take i xs)) (get_or xs i d) (drop (suc i) xs) x i half_length ∙ rw e (sym half_more)

  half_same : get_or xs i d ≡ f (get_or xs i d) → halfway f i xs ≡ halfway f (i + 1) xs
  half_same e = half_at ∙ ap (λ (x : A). map f (take i xs) ++ x ∷ drop (suc i) xs) e ∙ sym half_more

  half_there : get_or (halfway f i xs) i d ≡ get_or xs i d
  half_there = ap (λ (ys : List A). get_or ys i d) half_at ∙ get_or_at (map f (take i xs)) (get_or xs i d) (drop (suc i) xs) d i half_length

half_long : {A : Type 0} (f : A → A) (i : ℕ) (xs : List A) → i ≤ length xs → length (halfway f i xs) ≡ length xs
unfolding halfway
half_long f i xs h = length-append (map f (take i xs)) (drop i xs) ∙ rw (length-map (take i xs) f, length-take-le i xs h, length-drop i xs) (omega arith)

half_all : {A : Type 0} (f : A → A) (i : ℕ) (xs : List A) → length xs ≤ i → halfway f i xs ≡ map f xs
unfolding halfway
half_all f i xs h = rw (take_all i xs h, drop_of_length-le xs h) (append-nil (map f xs))

-- the first i slots are freed of the host
pub record Freeing (old bytes : List ℕ) (host sum i : ℕ) : Type 0 where
  pub size : Sized old
  pub order : InOrder (table_of old)
  pub within : i ≤ count old
  pub counted : sum ≡ length (those (is_hosts host) (take i (table_of old).slots))
  pub few : sum ≤ i
  pub so_far : bytes ≡ bytes_of (with_slots (table_of old) (halfway (freed host) i (table_of old).slots))

pub none_freed : (old : List ℕ) (host : ℕ) → well_formed old ≡ true → Bytes old → Freeing old old host 0 0
unfolding halfway those
none_freed old host well all = record {
  size = form_size old well;
  order = ordered old all well;
  within = omega arith;
  counted = refl;
  few = omega arith;
  so_far = sym (bytes_table old well all);
}

module _ (old bytes : List ℕ) (host sum i : ℕ) (c : Freeing old bytes host sum i) where
  pub kept_length : length bytes ≡ length old
  kept_length =
      ap length c.so_far ∙ bytes_length (with_slots (table_of old) (halfway (freed host) i (table_of old).slots))
      ∙ rw (half_long (freed host) i (table_of old).slots (rw (table_length old) c.within), table_length old) (sym c.size.whole)

  module _ (h : i < count old) where
    inside : i < length (table_of old).slots
    inside = rw (table_length old) h

    -- the slot at i is still the one that it was
    still : slot_of (part (width * (i + 1)) width bytes) ≡ get_or (table_of old).slots i Free
    still =
        let t = with_slots (table_of old) (halfway (freed host) i (table_of old).slots) in
        let there : i < length t.slots = rw (half_long (freed host) i (table_of old).slots (rw (table_length old) c.within)) inside in
        ap (λ (s : List ℕ). slot_of (part (width * (i + 1)) width s)) c.so_far
        ∙ ap slot_of (bytes_at t i there ∙ ap slot_bytes (half_there (freed host) i (table_of old).slots Free inside))
        ∙ again_at (table_of old) c.order i

    pub one_freed : {b : Bool} {after : List ℕ} → Frees bytes (width * (i + 1)) host b after → Freeing old after host (sum + bool_byte b) (i + 1)
    unfolding freed
    one_freed {b} {after} f = go (is_hosts host slot) refl (ap bool_byte (f.answer ∙ rw (still) refl)) (f.table_after ∙ rw (still) refl)
      where
        slots : List Slot
        slots = (table_of old).slots

        slot : Slot
        slot = get_or (table_of old).slots i Free

        more : length (those (is_hosts host) (take (i + 1) slots)) ≡ (if is_hosts host slot then length (those (is_hosts host) (take i slots)) + 1 else length (those (is_hosts host) (take i slots)))
        more = ap (λ (xs : List Slot). length (those (is_hosts host) xs)) (ap (λ (k : ℕ). take k slots) (add-one i) ∙ take-suc slots i Free inside) ∙ counted_more (is_hosts host) (take i slots) slot

        there : i < length (halfway (freed host) i slots)
        there = rw (half_long (freed host) i slots (rw (table_length old) c.within)) inside

        go : (b : Bool) → is_hosts host slot ≡ b → {r : ℕ} → r ≡ bool_byte b → after ≡ (if b then over (width * (i + 1)) (slot_bytes Free) bytes else bytes)
            → Freeing old after host (sum + r) (i + 1)
        go true q p e = record {
          size = c.size;
          order = c.order;
          within = omega arith;
          counted = rw (more, q, p, c.counted) refl;
          few = omega (arith, c.few);
          so_far = e ∙ ap (over (width * (i + 1)) (slot_bytes Free)) c.so_far
              ∙ put_bytes (with_slots (table_of old) (halfway (freed host) i slots)) i Free there
              ∙ ap (λ (xs : List Slot). bytes_of (with_slots (table_of old) xs)) (half_set (freed host) i slots Free inside Free (rw q refl));
        }
        go false q p e = record {
          size = c.size;
          order = c.order;
          within = omega arith;
          counted = rw (more, q, p, c.counted) (omega arith);
          few = omega (arith, c.few);
          so_far = e ∙ c.so_far ∙ ap (λ (xs : List Slot). bytes_of (with_slots (table_of old) xs)) (half_same (freed host) i slots Free inside (rw q refl));
        }

  pub all_freed : count old ≤ i → FreesAll old host sum bytes
  unfolding dropped
  all_freed h =
      let l : length (table_of old).slots ≤ i = rw (table_length old) h in
      record {
        count = c.counted ∙ rw (take_all i (table_of old).slots l) refl;
        table_after = c.so_far ∙ rw (half_all (freed host) i (table_of old).slots l) refl;
      }

-- the whole ladder
module _ (bytes : List ℕ) (host : ℕ) where
  refused_by : (refusal : Refusal) → says_of (drop_says host) bytes ≡ refusal_says refusal → Drops bytes host (Err refusal) bytes
  refused_by refusal e = let p = refusing (drop_says host) bytes (dropped host) (λ n. n ∷ []) refusal e in record { answer = p.0; table_after = p.1 }

  pub ill_formed : well_formed bytes ≡ false → Drops bytes host (Err NotWellFormed) bytes
  ill_formed ill = refused_by NotWellFormed (ill_refused (drop_says host) bytes ill refl)

  module _ (well : well_formed bytes ≡ true) where
    pub no_host : host ≡ 0 → Drops bytes host (Err Malformed) bytes
    unfolding drop_says refusal_says refusal_number refusal_value values_in
    no_host z = refused_by Malformed (says_well (drop_says host) bytes well ∙ rw (eq-eqb host 0 z) refl)

    pub host_dropped : (host ≡ 0 → ⊥) → {n : ℕ} {after : List ℕ} → FreesAll bytes host n after → Drops bytes host (Ok n) after
    unfolding says_by drop_says dropped
    host_dropped some f =
        let e : says_of (drop_says host) bytes ≡ done (length (those (is_hosts host) (table_of bytes).slots) ∷ []) = says_well (drop_says host) bytes well ∙ rw (ne_eqb host 0 some) refl in
        let new = with_slots (table_of bytes) (map (freed host) (table_of bytes).slots) in
        let long : length (bytes_of new) ≡ length bytes = bytes_length new ∙ rw (length-map (table_of bytes).slots (freed host), table_length bytes) (sym (form_size bytes well).whole) in
        record {
          answer = ap (λ (k : ℕ). done (k ∷ [])) f.count ∙ sym e;
          table_after = f.table_after ∙ sym (left_by (drop_says host) bytes (dropped host) e ∙ left_whole (length (those (is_hosts host) (table_of bytes).slots) ∷ []) (bytes_of new) bytes long);
        }
