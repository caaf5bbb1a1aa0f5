-- A list that passes in three parts: what comes before an entry's record, the same one, what comes after it. Where its spot is, and what the
-- new lists are of. Assumes nothing.
use mathlib.Core.Path.{◌≡◌, refl, sym, ◌∙◌, ap}
use mathlib.Core.List.{List, [], ◌∷◌, ◌++◌}
use mathlib.Core.Bool.{Bool, true, false, cond}
use Prim.Native.Nat.{ℕ, ◌+◌, ◌≤◌, ◌<◌}
use native.Mathlib.Omega.{arith}
use borrow.Author.Tests.{lt-ltb}
use lib.Dec.{ltb}
use lib.ListN.{length, take, drop, length-append}
use lib.Seq.{drop-drop, take_at, drop_at}
use Rattle.words.specs.Test.{any_of, those}
use Rattle.words.specs.Said.{done}
use Rattle.words.specs.Number.{Bytes}
use Rattle.words.specs.Realm.{realm_at}
use Rattle.records.specs.Kind.{size}
use Rattle.list.specs.Fault.{no_record}
use Rattle.list.specs.Checking.{check_says}
use Rattle.records.specs.declared.records.Record.{Record}
use Rattle.entry.specs.Spelling.{spelled, spell}
use Rattle.entry.specs.NewList.{records_in, same_entry, put_in, drop_from}
use Rattle.entry.specs.Plan.{spot_for}
use Rattle.entry.proofs.Spelled.{spelled_length}
use Rattle.entry.proofs.Cuts.{spelled_whole}
use Rattle.entry.proofs.Sorted.{InOrder, in_order_all}
use Rattle.entry.proofs.Splits.{earlier, same, later, put_parts, split, dropped, spell_append}

-- some of the records are spelled where there are any
some_spelled : (test : Record → Bool) (rs : List Record) → ltb 0 (length (spell (those test rs))) ≡ any_of test rs
unfolding those any_of spell spelled
some_spelled test [] = refl
some_spelled test (q ∷ qs) = go (test q) (some_spelled test qs)
  where
    go : (t : Bool) → ltb 0 (length (spell (those test qs))) ≡ any_of test qs
        → ltb 0 (length (spell (cond t (q ∷ those test qs) (those test qs)))) ≡ cond t true (any_of test qs)
    go true ih = lt-ltb 0 (length (spell (q ∷ those test qs))) (omega arith)
    go false ih = ih

module _ (list : List ℕ) (bytes : Bytes list) (passing : check_says list ≡ done []) (r : Record) (entry : 1 < r.kind) where
  abbrev rs : List Record
  rs = records_in list

  order : InOrder (realm_at 1 list) no_record rs
  order = in_order_all list passing

  old_spelled : list ≡ spell (earlier r rs) ++ (spell (same r rs) ++ spell (later r rs))
  old_spelled =
      sym (spelled_whole list bytes passing)
      ∙ ap spell (split r entry (realm_at 1 list) no_record rs order)
      ∙ spell_append (earlier r rs) (same r rs ++ later r rs)
      ∙ ap (λ (xs : List ℕ). spell (earlier r rs) ++ xs) (spell_append (same r rs) (later r rs))

  pub put_spelled : spell (put_in r rs) ≡ spell (earlier r rs) ++ (spelled r ++ spell (later r rs))
  unfolding spell
  put_spelled = ap spell (put_parts r rs) ∙ spell_append (earlier r rs) (r ∷ later r rs)

  pub drop_spelled : spell (drop_from r rs) ≡ spell (earlier r rs) ++ spell (later r rs)
  drop_spelled = ap spell (dropped r entry (realm_at 1 list) no_record rs order) ∙ spell_append (earlier r rs) (later r rs)

  -- what stands before the spot, and what behind it
  pub before_spot : take (spot_for list r).at list ≡ spell (earlier r rs)
  unfolding spot_for
  before_spot = let at = length (spell (earlier r rs)) in ap (take at) old_spelled ∙ take_at (spell (earlier r rs)) (spell (same r rs) ++ spell (later r rs)) at refl

  pub behind_spot : drop ((spot_for list r).at + (spot_for list r).size) list ≡ spell (later r rs)
  unfolding spot_for
  behind_spot =
      let at = length (spell (earlier r rs)) in
      let size = length (spell (same r rs)) in
      sym (drop-drop size at list)
      ∙ ap (drop size) (ap (drop at) old_spelled ∙ drop_at (spell (earlier r rs)) (spell (same r rs) ++ spell (later r rs)) at refl)
      ∙ drop_at (spell (same r rs)) (spell (later r rs)) size refl

  old_length : length list ≡ (spot_for list r).at + ((spot_for list r).size + length (spell (later r rs)))
  unfolding spot_for
  old_length =
      ap length old_spelled
      ∙ length-append (spell (earlier r rs)) (spell (same r rs) ++ spell (later r rs))
      ∙ ap (λ (n : ℕ). length (spell (earlier r rs)) + n) (length-append (spell (same r rs)) (spell (later r rs)))

  pub inside : (spot_for list r).at + (spot_for list r).size ≤ length list
  inside = omega (arith, old_length)

  -- the lengths of the new lists
  pub put_length : length (spell (put_in r rs)) + (spot_for list r).size ≡ length list + size r.kind
  unfolding spot_for
  put_length =
      omega (arith, old_length, ap length put_spelled, length-append (spell (earlier r rs)) (spelled r ++ spell (later r rs)), length-append (spelled r) (spell (later r rs)), spelled_length r)

  pub drop_length : length (spell (drop_from r rs)) + (spot_for list r).size ≡ length list
  unfolding spot_for
  drop_length = omega (arith, old_length, ap length drop_spelled, length-append (spell (earlier r rs)) (spell (later r rs)))

  -- the record is there where it has a length
  pub there : ltb 0 (spot_for list r).size ≡ any_of (same_entry r) rs
  unfolding spot_for
  there = some_spelled (same_entry r) rs
