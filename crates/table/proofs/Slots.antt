-- A loop over the slots of a table: those that it has passed, and those that are left of the bytes. Assumes nothing.
use Rattle.std.specs.Prelude.{Option, None, Some, MatchOption, slice_range}
use Rattle.std.specs.Option.{unwrap_or}
use denote.Bor.{Bor}
use mathlib.Core.Path.{◌≡◌, refl, sym, ◌∙◌, ap}
use mathlib.Core.List.{List, [], ◌∷◌, ◌++◌, append_assoc, append-nil}
use mathlib.Core.Logic.{◌⊎◌, inl, inr}
use Prim.Native.Nat.{ℕ, suc, ◌+◌, ◌-◌, ◌/◌, ◌≤◌, ◌<◌}
use native.Mathlib.Omega.{arith}
use lib.ListN.{length, drop, length-append, length-drop, drop_of_length-le}
use lib.Seq.{take_all, take_at, drop_at}
use Rattle.table.specs.Layout.{width, cut, count, slots_in}

-- what `get` found after the header, or nothing
pub header_skipped : (bytes : List ℕ) (found : Option (Bor (List ℕ))) (none : Bor (List ℕ)) → none.now ≡ []
    → MatchOption found ((length bytes < width) ⊎ (length bytes < length bytes)) (λ x.
    (width ≤ length bytes) × (length bytes ≤ length bytes) × (x.now ≡ slice_range bytes width (length bytes)) × (length x.now + width ≡ length bytes))
    → (unwrap_or found none).now ≡ drop width bytes
header_skipped bytes (Some x) none e h = h.2 ∙ take_all (length bytes - width) (drop width bytes) (omega (arith, length-drop width bytes))
header_skipped bytes None none e (inl h) = e ∙ sym (drop_of_length-le bytes {i = width} (omega arith))
header_skipped bytes None none e (inr h) = absurd (omega arith)

-- the slots of what is left
unfoldable pub cuts : List ℕ → List (List ℕ)
cuts bytes = cut (length bytes / width) bytes

cuts_cons : (slot more : List ℕ) → length slot ≡ width → cuts (slot ++ more) ≡ slot ∷ cuts more
unfolding cuts cut
cuts_cons slot more e =
    let n : length (slot ++ more) / width ≡ suc (length more / width) = rw (length-append slot more, e) (omega arith) in
    rw (n, take_at slot more width e, drop_at slot more width e) refl

-- of all slots, those that are passed and those that are left
pub record Passing (all : List (List ℕ)) (size : ℕ) (rest : List ℕ) : Type 0 where
  pub passed : List (List ℕ)
  pub wide : size ≡ width
  pub whole : all ≡ passed ++ cuts rest

-- when the loop begins: at bytes without a header, and at a table
unfoldable pub none_of : (bytes : List ℕ) {size : ℕ} {rest : List ℕ} → size ≡ width → rest ≡ bytes → Passing (cuts bytes) size rest
none_of bytes wide e = record { passed = []; wide = wide; whole = ap cuts (sym e) }

unfoldable pub none_passed : (bytes : List ℕ) {size : ℕ} {rest : List ℕ} → size ≡ width → rest ≡ drop width bytes → Passing (slots_in bytes) size rest
unfolding slots_in cuts
none_passed bytes wide e =
    let n : length (drop width bytes) / width ≡ count bytes = rw (length-drop width bytes) (omega arith) in
    record { passed = []; wide = wide; whole = rw (e, n) refl }

module _ {all : List (List ℕ)} {size : ℕ} {rest : List ℕ} (p : Passing all size rest) where
  module _ (slot more : List ℕ) (next : (rest ≡ slot ++ more) × (length slot ≡ size)) where
    pub at_slot : all ≡ p.passed ++ slot ∷ cuts more
    at_slot = p.whole ∙ ap (λ (slots : List (List ℕ)). p.passed ++ slots) (ap cuts next.0 ∙ cuts_cons slot more (next.1 ∙ p.wide))

    unfoldable pub one_passed : {size' : ℕ} → size' ≡ size → Passing all size' more
    one_passed e = record { passed = p.passed ++ slot ∷ []; wide = e ∙ p.wide; whole = at_slot ∙ sym (append_assoc p.passed (slot ∷ []) (cuts more)) }

  pub all_passed : length rest < size → all ≡ p.passed
  unfolding cuts cut
  all_passed h =
      let n : length rest / width ≡ 0 = omega (arith, p.wide) in
      p.whole ∙ rw n (append-nil p.passed)
