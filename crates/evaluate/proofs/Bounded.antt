-- A list that passes gives none but the six rights. Assumes nothing.
use Rattle.std.specs.Prelude.{if◌then◌else◌}
use mathlib.Core.Path.{◌≡◌}
use mathlib.Core.List.{List, [], ◌∷◌, foldl}
use mathlib.Core.Bool.{Bool, true, false}
use Prim.Native.Nat.{ℕ, ◌<◌}
use native.Mathlib.Omega.{arith}
use borrow.Author.Tests.{ltb-false}
use lib.Bits.{bit_and, bit_or, and_le_l, or_lt}
use Rattle.words.specs.Test.{those}
use Rattle.words.specs.Said.{done}
use Rattle.words.specs.Realm.{realm_at}
use Rattle.words.specs.declared.realm.Realm.{Realm}
use Rattle.words.proofs.Tests.{Each}
use Rattle.list.specs.Checking.{Placed, records, check_says}
use Rattle.list.proofs.Passed.{IsSound, all_sound}
use Rattle.evaluate.specs.Asking.{of_default_realm}
use Rattle.evaluate.specs.Steps.{steps, Served, union, is_mask, masking, rights_by}
use Rattle.evaluate.specs.Evaluation.{served_in}
use Rattle.evaluate.specs.declared.asking.Caller.{Caller}
use Rattle.evaluate.specs.declared.asking.File.{File}
use Rattle.evaluate.proofs.Masking.{kept}
use Rattle.evaluate.proofs.Deciders.{served_each}

united_below : (home : Realm) (ps : List Placed) (x : ℕ) → x < 64 → Each (IsSound home) ps → foldl (λ (y : ℕ) (p : Placed). bit_or y p.it.rights) x ps < 64
unfolding Each
united_below home [] x h s = h
united_below home (p ∷ ps) x h s =
    let b : p.it.rights < 64 = omega (arith, ltb-false 63 p.it.rights s.0.rights) in
    united_below home ps (bit_or x p.it.rights) (or_lt 6 x p.it.rights h b) s.1

kept_below : (ms : List Placed) (x : ℕ) → x < 64 → kept x ms < 64
unfolding kept
kept_below [] x h = h
kept_below (m ∷ ms) x h =
    let b : bit_and x m.it.rights < 64 = omega (arith, and_le_l x m.it.rights) in
    kept_below ms (bit_and x m.it.rights) b

rights_below : (s : Served) (rs : List Placed) → union s.by < 64 → rights_by s rs < 64
unfolding rights_by masking kept
rights_below s rs h = go s.is_masked
  where
    go : (b : Bool) → (if b then kept (union s.by) (those is_mask rs) else union s.by) < 64
    go true = kept_below (those is_mask rs) (union s.by) h
    go false = h

pub six_rights : (list groups : List ℕ) (caller : Caller) (file : File) → check_says list ≡ done []
    → rights_by (served_in list groups caller file) (records list) < 64
unfolding served_in union
six_rights list groups caller file passes =
    let home = realm_at 1 list in
    let sound = served_each (IsSound home) (records list) (all_sound list passes) 1 (steps (of_default_realm caller home) groups caller file) in
    rights_below (served_in list groups caller file) (records list) (united_below home (served_in list groups caller file).by 0 (omega arith) sound)
