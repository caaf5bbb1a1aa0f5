-- Where a record stands by another: by what was tested, and what follows. Assumes nothing.
use Rattle.std.specs.Prelude.{if◌then◌else◌}
use mathlib.Core.Path.{◌≡◌, refl, sym, ◌∙◌}
use mathlib.Core.Bool.{Bool, true, false}
use Prim.Native.Nat.{◌<◌}
use native.Mathlib.Omega.{arith}
use borrow.Author.Tests.{ne_eqb, lt-ltb, le-ltb}
use Rattle.std.proofs.Common.{Ordering, Less, Equal, Greater}
use Rattle.records.specs.Standing.{body_rises, rises}
use Rattle.records.specs.declared.records.Record.{Record}
use Rattle.records.proofs.Rising.{by_body}
use Rattle.entry.specs.Entry.{is_entry}
use Rattle.entry.specs.Spot.{side_of}
use Rattle.entry.proofs.Lengths.{is_above}

-- before, after, or neither
abbrev stands : Bool → Bool → Ordering
stands before after = if before then Less else if after then Greater else Equal

module _ (q r : Record) where
  -- where the kinds differ they tell
  pub lower_kind : q.kind < r.kind → Less ≡ side_of q r
  unfolding side_of rises
  lower_kind h = rw (lt-ltb q.kind r.kind h) refl

  pub higher_kind : r.kind < q.kind → Greater ≡ side_of q r
  unfolding side_of rises
  higher_kind h = rw (le-ltb q.kind r.kind (omega arith), ne_eqb q.kind r.kind (λ e. omega arith), lt-ltb r.kind q.kind h) refl

  -- else the bodies tell, of an entry's kind
  module _ (one : q.kind ≡ r.kind) (entry : is_entry q.kind ≡ true) {h : Record} (head : h ≡ q) {b : Bool} (told : b ≡ body_rises h r) where
    rising : b ≡ rises q r
    rising = let many = is_above q.kind entry in by_body q r one (λ e. omega arith) (rw head at told)

    pub is_before : b ≡ true → Less ≡ side_of q r
    unfolding side_of
    is_before t = rw (sym rising ∙ t) refl

    module _ (stays : b ≡ false) {c : Bool} (back : c ≡ body_rises r h) where
      falling : c ≡ rises r q
      falling = let many = is_above q.kind entry in by_body r q (sym one) (λ e. omega arith) (rw head at back)

      pub is_after : c ≡ true → Greater ≡ side_of q r
      unfolding side_of
      is_after t = rw (sym rising ∙ stays, sym falling ∙ t) refl

      pub is_same : c ≡ false → Equal ≡ side_of q r
      unfolding side_of
      is_same t = rw (sym rising ∙ stays, sym falling ∙ t) refl

  -- what a side says
  module _ {side : Ordering} (told : side ≡ side_of q r) where
    pub was_before : side ≡ Less → rises q r ≡ true
    unfolding side_of
    was_before s = go (rises q r) (rises r q) (sym told ∙ s)
      where
        go : (a b : Bool) → stands a b ≡ Less → a ≡ true
        go true b e = refl
        go false true e = cc
        go false false e = cc

    pub was_after : side ≡ Greater → (rises q r ≡ false) × (rises r q ≡ true)
    unfolding side_of
    was_after s = go (rises q r) (rises r q) (sym told ∙ s)
      where
        go : (a b : Bool) → stands a b ≡ Greater → (a ≡ false) × (b ≡ true)
        go true b e = cc
        go false true e = (refl, refl)
        go false false e = cc

    pub was_same : side ≡ Equal → (rises q r ≡ false) × (rises r q ≡ false)
    unfolding side_of
    was_same s = go (rises q r) (rises r q) (sym told ∙ s)
      where
        go : (a b : Bool) → stands a b ≡ Equal → (a ≡ false) × (b ≡ false)
        go true b e = cc
        go false true e = cc
        go false false e = (refl, refl)
