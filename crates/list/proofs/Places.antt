-- The records of a list lie within it. Assumes nothing.
use Rattle.std.specs.Prelude.{if◌then◌else◌, None, Some, Ok, Err}
use mathlib.Core.Path.{◌≡◌, refl}
use mathlib.Core.List.{List, [], ◌∷◌}
use mathlib.Core.Bool.{Bool, true, false}
use Prim.Native.Nat.{ℕ, zero, suc, ◌+◌, ◌≤◌}
use native.Mathlib.Omega.{arith}
use lib.Dec.{eqb}
use lib.ListN.{length, drop, length-drop}
use Rattle.words.proofs.Tests.{Each}
use Rattle.records.specs.Reading.{Read, read_of, when_whole}
use Rattle.records.proofs.Tails.{within_tail}
use Rattle.list.specs.Checking.{found, cut_from, cut, Placed, placed, wholes, records}

-- a record ends at n or before
abbrev pub EndsBy : ℕ → Placed → Type 0
EndsBy n p = p.at + p.it.size ≤ n

cut_within : (fuel at : ℕ) (t : List ℕ) (n : ℕ) → at + length t ≤ n → Each (EndsBy n) (wholes (cut_from fuel at t))
unfolding Each wholes cut_from when_whole found placed
cut_within zero at t n h = tt
cut_within (suc fuel) at t n h = go (λ at u. cut_within fuel at u n) (eqb (length t) 0) (read_of t) refl
  where
    go : ((at : ℕ) (u : List ℕ) → at + length u ≤ n → Each (EndsBy n) (wholes (cut_from fuel at u))) → (b : Bool) (read : Read) → read_of t ≡ read
        → Each (EndsBy n) (wholes (if b then [] else found at read ∷ when_whole read (λ r. cut_from fuel (at + r.size) (drop r.size t)) []))
    go ih true read q = tt
    go ih false (Ok None) q = tt
    go ih false (Err f) q = tt
    go ih false (Ok (Some r)) q =
        let s = within_tail t r q in
        let here : at + r.size ≤ n = omega arith in
        let rest : at + r.size + length (drop r.size t) ≤ n = omega (arith, length-drop r.size t) in
        (here, ih (at + r.size) (drop r.size t) rest)

pub records_within : (list : List ℕ) → Each (EndsBy (length list)) (records list)
unfolding records cut
records_within list = cut_within (length list) 0 list (length list) (omega arith)
