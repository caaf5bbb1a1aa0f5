-- A table with more slots is well formed, and means and audits the same. Assumes nothing.
use mathlib.Core.Path.{◌≡◌, refl, sym, ◌∙◌, ap}
use mathlib.Core.Bool.{Bool, true}
use mathlib.Core.List.{List, [], ◌∷◌, ◌++◌, map, append_assoc}
use Prim.Native.Nat.{ℕ, zero, suc, ◌+◌, ◌*◌, ◌≤◌}
use native.Mathlib.Omega.{arith}
use lib.ListN.{length, replicate, length-append, length-replicate, replicate-append-replicate}
use Rattle.words.specs.Test.{all_of}
use Rattle.words.proofs.Tests.{Each, each_append}
use Rattle.table.specs.Table.{Table, limit, with_slots}
use Rattle.table.specs.Layout.{width, header_bytes, slot_bytes, joined, table_of, bytes_of}
use Rattle.table.specs.Form.{well_formed}
use Rattle.table.specs.declared.slot.Slot.{Slot}
use Rattle.table.specs.declared.slot.Slot.TheVariants.{Free}
use Rattle.table.proofs.Cuts.{table_length}
use Rattle.table.proofs.Tables.{bytes_table}
use Rattle.table.proofs.Means.{Ordered, InOrder, ordered, table_bytes, bytes_formed}
use Rattle.audit.specs.Audit.{apart, all_apart, sound}
use Rattle.audit.proofs.Exactly.{free_last, from_free}
use Rattle.histories.specs.Longer.{longer, Lengthens}

-- free slots are zero bytes
free_bytes : (k : ℕ) → joined (map slot_bytes (replicate k Free)) ≡ replicate (width * k) 0
unfolding joined slot_bytes
free_bytes zero = refl
free_bytes (suc k) =
    let one_more : width + width * k ≡ width * suc k = omega arith in
    ap (λ (x : List ℕ). replicate width 0 ++ x) (free_bytes k) ∙ replicate-append-replicate width (width * k) 0 ∙ ap (λ (n : ℕ). replicate n 0) one_more

more_bytes : (slots : List Slot) (k : ℕ) → joined (map slot_bytes (slots ++ replicate k Free)) ≡ joined (map slot_bytes slots) ++ replicate (width * k) 0
unfolding joined
more_bytes [] k = free_bytes k
more_bytes (s ∷ ss) k =
    ap (λ (x : List ℕ). slot_bytes s ++ x) (more_bytes ss k) ∙ sym (append_assoc (slot_bytes s) (joined (map slot_bytes ss)) (replicate (width * k) 0))

free_ordered : (top next k : ℕ) → Each (Ordered top next) (replicate k Free)
unfolding Each Ordered
free_ordered top next zero = tt
free_ordered top next (suc k) = (tt, free_ordered top next k)

-- free slots change no test that they pass
all_more : (test : Slot → Bool) → test Free ≡ true → (slots : List Slot) (k : ℕ) → all_of test (slots ++ replicate k Free) ≡ all_of test slots
unfolding all_of
all_more test e [] zero = refl
all_more test e [] (suc k) = rw e (all_more test e [] k)
all_more test e (s ∷ ss) k = rw (all_more test e ss k) refl

apart_more : (slots : List Slot) (k : ℕ) → all_apart (slots ++ replicate k Free) ≡ all_apart slots
unfolding all_apart all_of
apart_more [] zero = refl
apart_more [] (suc k) = rw (all_more (apart Free) (from_free Free) [] k, apart_more [] k) refl
apart_more (s ∷ ss) k = rw (all_more (apart s) (free_last s) ss k, apart_more ss k) refl

-- a table with so many free slots more
unfoldable grown : Table → ℕ → Table
grown t k = with_slots t (t.slots ++ replicate k Free)

grown_bytes : (t : Table) (k : ℕ) → bytes_of t ++ replicate (width * k) 0 ≡ bytes_of (grown t k)
unfolding bytes_of grown
grown_bytes t k =
    append_assoc (header_bytes t.next) (joined (map slot_bytes t.slots)) (replicate (width * k) 0)
    ∙ ap (λ (x : List ℕ). header_bytes t.next ++ x) (sym (more_bytes t.slots k))

grown_order : (t : Table) → InOrder t → (k : ℕ) → length t.slots + k ≤ 1024 → InOrder (grown t k)
unfolding grown limit
grown_order t o k few =
    let long : length (t.slots ++ replicate k Free) ≡ length t.slots + k = length-append t.slots (replicate k Free) ∙ ap (λ (n : ℕ). length t.slots + n) (length-replicate k Free) in
    record {
      some = omega (arith, long, o.some);
      few = omega (arith, long, few);
      begun = o.begun;
      wide = o.wide;
      slots = each_append (Ordered (limit t) t.next) t.slots (replicate k Free) o.slots (free_ordered (limit t) t.next k);
    }

pub lengthens : Lengthens
unfolding grown sound
lengthens bytes lent formed k few =
    let t = table_of bytes in
    let spelled : longer bytes k ≡ bytes_of (grown t k) = ap (λ (x : List ℕ). x ++ replicate (width * k) 0) (sym (bytes_table bytes formed lent)) ∙ grown_bytes t k in
    let o = grown_order t (ordered bytes lent formed) k (rw (table_length bytes) few) in
    let shaped = ap well_formed spelled ∙ bytes_formed (grown t k) o in
    let means = ap table_of spelled ∙ table_bytes (grown t k) o in
    record { is_well_formed = shaped; table = means; audit = rw (shaped, means, formed) (apart_more t.slots k) }
