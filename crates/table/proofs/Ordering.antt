-- Tables in order stay in order: fresh, with a slot changed, with a number more. Assumes nothing.
use Rattle.std.specs.Prelude.{if◌then◌else◌}
use mathlib.Core.Path.{◌≡◌, refl, sym, ◌∙◌}
use mathlib.Core.Bool.{Bool, true, false, not, ◌&&◌}
use mathlib.Core.List.{List, [], map}
use mathlib.Core.Logic.{◌⊎◌, inl, inr}
use Prim.Native.Nat.{ℕ, zero, suc, ◌+◌, ◌≤◌}
use native.Mathlib.Omega.{arith}
use borrow.Author.Tests.{ltb-true, lt-ltb}
use lib.Dec.{ltb}
use lib.ListN.{length, replicate, length-set, length-map, length-replicate}
use Rattle.words.specs.Said.{Said, done, refused, left}
use Rattle.words.specs.Number.{Bytes}
use Rattle.words.proofs.Tests.{Each, each_so, each_set, each_map, and_left, and_right, and_both}
use Rattle.words.proofs.Left.{left_whole}
use Rattle.claims.specs.Claim.{malformed}
use Rattle.claims.specs.declared.claim.Claim.{Claim}
use Rattle.table.specs.Table.{Table, limit, with_slots, put, issue}
use Rattle.table.specs.Layout.{Fits, table_of, bytes_of, count}
use Rattle.table.specs.Form.{is_length, is_token, well_formed}
use Rattle.table.specs.Fill.{filled, fill_says, Fills}
use Rattle.table.specs.Call.{left_of}
use Rattle.words.specs.declared.refusal.Refusal.{Refusal}
use Rattle.std.specs.Prelude.{Result}
use Rattle.table.specs.declared.slot.Slot.{Slot}
use Rattle.table.specs.declared.slot.Slot.TheVariants.{Free, Held}
use Rattle.table.proofs.Means.{Ordered, InOrder, bytes_formed, ordered}
use Rattle.table.proofs.Tables.{bytes_length, form_size}
use Rattle.table.proofs.Cuts.{sized, table_length}
use Rattle.table.proofs.Calls.{says_ill, says_well, left_refused, left_by}

frees : (top next n : ℕ) → Each (Ordered top next) (replicate n Free)
unfolding Each Ordered
frees top next zero = tt
frees top next (suc n) = (tt, frees top next n)

pub fresh_order : (n : ℕ) → 1 ≤ n → n ≤ 1024 → InOrder (filled n)
unfolding filled
fresh_order n some few = record {
  some = rw (length-replicate n Free) some;
  few = rw (length-replicate n Free) few;
  begun = omega arith;
  wide = omega arith;
  slots = frees (limit (filled n)) 1 n;
}

fresh_length : (n : ℕ) → length (filled n).slots ≡ n
unfolding filled
fresh_length n = length-replicate n Free

-- a number more leaves each token in order
later : (top next : ℕ) (slot : Slot) → Ordered top next slot → Ordered top (next + 1) slot
unfolding Ordered is_token
later top next Free o = tt
later top next (Held number claim) o =
    let front = not (malformed claim top) && ltb 0 number in
    let below = ltb-true number next (and_right front (ltb number next) o.0) in
    (and_both front (ltb number (next + 1)) (and_left front (ltb number next) o.0) (lt-ltb number (next + 1) (omega arith)), o.1)

module _ (t : Table) (o : InOrder t) where
  pub put_order : (i : ℕ) (slot : Slot) → Ordered (limit t) t.next slot → InOrder (put t i slot)
  unfolding limit
  put_order i slot s = record {
    some = rw (length-set t.slots i slot) o.some;
    few = rw (length-set t.slots i slot) o.few;
    begun = o.begun;
    wide = o.wide;
    slots = each_set (Ordered (limit t) t.next) t.slots i slot o.slots s;
  }

  pub map_order : (f : Slot → Slot) → ((slot : Slot) → Ordered (limit t) t.next slot → Ordered (limit t) t.next (f slot)) → InOrder (with_slots t (map f t.slots))
  unfolding limit
  map_order f keeps = record {
    some = rw (length-map t.slots f) o.some;
    few = rw (length-map t.slots f) o.few;
    begun = o.begun;
    wide = o.wide;
    slots = each_map (Ordered (limit t) t.next) f keeps t.slots o.slots;
  }

  pub issue_order : (i : ℕ) (claim : Claim) → malformed claim (limit t) ≡ false → Fits claim → (t.next ≡ 18446744073709551615 → ⊥) → InOrder (issue t i claim)
  unfolding limit Ordered is_token
  issue_order i claim shaped fits more =
      let next = t.next in
      let token : Ordered (limit t) (next + 1) (Held next claim) = (
        and_both (not (malformed claim (limit t)) && ltb 0 next) (ltb next (next + 1))
            (and_both (not (malformed claim (limit t))) (ltb 0 next) (rw shaped refl) (lt-ltb 0 next o.begun)) (lt-ltb next (next + 1) (omega arith)),
        fits,
      ) in
      record {
        some = rw (length-set t.slots i (Held next claim)) o.some;
        few = rw (length-set t.slots i (Held next claim)) o.few;
        begun = omega arith;
        wide = omega (arith, o.wide);
        slots = each_set (Ordered (limit t) (next + 1)) t.slots i (Held next claim) (each_so {Q = Ordered (limit t) (next + 1)} (later (limit t) next) t.slots o.slots) token;
      }

-- a call that leaves tables in order leaves bytes well formed, or as they were
module _ (says : Table → Said) (changed : Table → Table) (bytes : List ℕ) (all : Bytes bytes)
    (keeps : (t : Table) → InOrder t → (values : List ℕ) → says t ≡ done values → InOrder (changed t) × (length (changed t).slots ≡ length t.slots)) where
  pub left_formed : {after : List ℕ} → after ≡ left_of says changed bytes → (well_formed after ≡ true) ⊎ (after ≡ bytes)
  left_formed {after} e = go (well_formed bytes) refl
    where
      told : (said : Said) → says (table_of bytes) ≡ said → well_formed bytes ≡ true → (well_formed after ≡ true) ⊎ (after ≡ bytes)
      told (refused number values) q well = inr (e ∙ left_refused says bytes changed (says_well says bytes well ∙ q))
      told (done values) q well =
          let k = keeps (table_of bytes) (ordered bytes all well) values q in
          let long : length (bytes_of (changed (table_of bytes))) ≡ length bytes = bytes_length (changed (table_of bytes)) ∙ rw (k.1, table_length bytes) (sym (form_size bytes well).whole) in
          let now : after ≡ bytes_of (changed (table_of bytes)) = e ∙ left_by says bytes changed (says_well says bytes well ∙ q) ∙ left_whole values (bytes_of (changed (table_of bytes))) bytes long in
          inl (rw now (bytes_formed (changed (table_of bytes)) k.0))

      go : (b : Bool) → well_formed bytes ≡ b → (well_formed after ≡ true) ⊎ (after ≡ bytes)
      go true well = told (says (table_of bytes)) refl well
      go false ill = inr (e ∙ left_refused says bytes changed (says_ill says bytes ill))

pub fill_formed : {bytes : List ℕ} {r : Result (Unit {0}) Refusal} {after : List ℕ} → Fills bytes r after → (well_formed after ≡ true) ⊎ (after ≡ bytes)
unfolding fill_says left
fill_formed {bytes} {r} {after} f = go (is_length (length bytes)) refl f.table_after
  where
    go : (b : Bool) → is_length (length bytes) ≡ b → after ≡ left (if b then done [] else refused 30 []) (bytes_of (filled (count bytes))) bytes
        → (well_formed after ≡ true) ⊎ (after ≡ bytes)
    go true q e =
        let size = sized bytes q in
        let long : length (bytes_of (filled (count bytes))) ≡ length bytes = bytes_length (filled (count bytes)) ∙ rw (fresh_length (count bytes)) (sym size.whole) in
        inl (rw (e ∙ left_whole [] (bytes_of (filled (count bytes))) bytes long) (bytes_formed (filled (count bytes)) (fresh_order (count bytes) size.some size.few)))
    go false q e = inr e
