-- The marks of a walk say what the records so far have. Assumes nothing.
use Rattle.std.specs.Prelude.{if◌then◌else◌, None, Some}
use Rattle.words.specs.declared.refusal.Fault.TheVariants.{ObjectMissing, MaskMissing, ControlMissing}
use mathlib.Core.Path.{◌≡◌, refl, ◌∙◌, ap}
use mathlib.Core.Bool.{Bool, true, false, not, ◌||◌, ◌&&◌}
use Prim.Native.Nat.{ℕ, ◌+◌, ◌*◌, ◌/◌, ◌%◌}
use native.Mathlib.Omega.{arith}
use borrow.Author.Tests.{eqb-true, eqb-false, leb-true, eq-eqb, ne_eqb}
use lib.Arith.{digits_mod}
use lib.Bits.{bit_or}
use lib.Dec.{eqb, leb, lit<}
use Rattle.words.specs.Bit.{bit}
use Rattle.words.proofs.Bits.{bit-bit_or}
use Rattle.records.specs.Kind.{wants_mask}
use Rattle.records.specs.Standing.{lacks_control}
use Rattle.records.specs.declared.records.Record.{Record}
use Rattle.list.specs.Fault.{Seen, end_fault}
use Rattle.list.specs.Walking.{mark_of, seen_of}

-- what one record has
unfoldable pub of : Record → Seen
of r = record {
  user = eqb r.kind 2;
  group = eqb r.kind 3;
  other = eqb r.kind 4;
  mask = eqb r.kind 5;
  wanting = wants_mask r.kind;
  powerless = lacks_control r;
}

-- what either has
unfoldable pub joined : Seen → Seen → Seen
joined s t = record {
  user = s.user || t.user;
  group = s.group || t.group;
  other = s.other || t.other;
  mask = s.mask || t.mask;
  wanting = s.wanting || t.wanting;
  powerless = s.powerless || t.powerless;
}

-- a record's mark says what it has
user_mark : (l : Bool) → seen_of (if l then 33 else 1) ≡ record { user = true; group = false; other = false; mask = false; wanting = false; powerless = l }
unfolding seen_of bit
user_mark true = refl
user_mark false = refl

mark_says : (r : Record) → seen_of (mark_of r) ≡ of r
unfolding seen_of mark_of of bit wants_mask lacks_control
mark_says r = go (leb 6 r.kind) (eqb r.kind 2) (eqb r.kind 3) (eqb r.kind 4) (eqb r.kind 5) refl refl refl refl refl
  where
    go : (w a b c d : Bool) → leb 6 r.kind ≡ w → eqb r.kind 2 ≡ a → eqb r.kind 3 ≡ b → eqb r.kind 4 ≡ c → eqb r.kind 5 ≡ d → seen_of (mark_of r) ≡ of r
    go true a b c d p q s t u =
        let h = leb-true 6 r.kind p in
        simp (p, ne_eqb r.kind 2 (λ e. omega arith), ne_eqb r.kind 3 (λ e. omega arith), ne_eqb r.kind 4 (λ e. omega arith), ne_eqb r.kind 5 (λ e. omega arith))
    go false true b c d p q s t u = simp (eqb-true r.kind 2 q) (user_mark (eqb (r.rights / 8 % 2) 0))
    go false false true c d p q s t u = simp (eqb-true r.kind 3 s)
    go false false false true d p q s t u = simp (eqb-true r.kind 4 t)
    go false false false false true p q s t u = simp (eqb-true r.kind 5 u)
    go false false false false false p q s t u = simp (p, q, s, t, u)

-- one record more
pub marked : (marks : ℕ) (r : Record) → seen_of (bit_or marks (mark_of r)) ≡ joined (seen_of marks) (of r)
unfolding seen_of joined
marked marks r = rw (← mark_says r) (simp bit-bit_or)

-- the end's tests, asked of the marks
module _ (n : ℕ) where
  all_three : n % 8 ≡ 7 → (bit 0 n && (bit 1 n && bit 2 n)) ≡ true
  unfolding bit
  all_three h = simp (eq-eqb (n / 1 % 2) 1 (omega arith), eq-eqb (n / 2 % 2) 1 (omega arith), eq-eqb (n / 4 % 2) 1 (omega arith))

  not_three : (n % 8 ≡ 7 → ⊥) → (bit 0 n && (bit 1 n && bit 2 n)) ≡ false
  unfolding bit
  not_three h = go (eqb (n / 1 % 2) 1) (eqb (n / 2 % 2) 1) (eqb (n / 4 % 2) 1) refl refl refl
    where
      go : (a b c : Bool) → eqb (n / 1 % 2) 1 ≡ a → eqb (n / 2 % 2) 1 ≡ b → eqb (n / 4 % 2) 1 ≡ c → (a && (b && c)) ≡ false
      go true true true p q r =
          let x : n / 4 ≡ n / 2 / 2 = omega arith in
          let e : n ≡ n / 2 * 2 + 1 = omega (arith, eqb-true (n / 1 % 2) 1 p) in
          let f : n / 2 ≡ n / 2 / 2 * 2 + 1 = omega (arith, eqb-true (n / 2 % 2) 1 q) in
          let g : n / 2 / 2 ≡ n / 2 / 2 / 2 * 2 + 1 = omega (arith, eqb-true (n / 4 % 2) 1 r) in
          let s : n ≡ n / 2 / 2 / 2 * 8 + 7 = omega arith in
          absurd (h (ap (λ (m : ℕ). m % 8) s ∙ digits_mod (n / 2 / 2 / 2) (lit< tt)))
      go true true false p q r = refl
      go true false c p q r = refl
      go false b c p q r = refl

  wanted : n / 8 % 4 ≡ 2 → (bit 4 n && not (bit 3 n)) ≡ true
  unfolding bit
  wanted h = simp (eq-eqb (n / 16 % 2) 1 (omega arith), ne_eqb (n / 8 % 2) 1 (λ e. omega arith))

  not_wanted : (n / 8 % 4 ≡ 2 → ⊥) → (bit 4 n && not (bit 3 n)) ≡ false
  unfolding bit
  not_wanted h = go (eqb (n / 16 % 2) 1) (eqb (n / 8 % 2) 1) refl refl
    where
      go : (a b : Bool) → eqb (n / 16 % 2) 1 ≡ a → eqb (n / 8 % 2) 1 ≡ b → (a && not b) ≡ false
      go true true p q = refl
      go true false p q =
          let x : n / 16 ≡ n / 8 / 2 = omega arith in
          let e : n / 8 ≡ n / 8 / 2 * 2 = omega (arith, eqb-false (n / 8 % 2) 1 q) in
          let f : n / 8 / 2 ≡ n / 8 / 2 / 2 * 2 + 1 = omega (arith, eqb-true (n / 16 % 2) 1 p) in
          let s : n / 8 ≡ n / 8 / 2 / 2 * 4 + 2 = omega arith in
          absurd (h (ap (λ (m : ℕ). m % 4) s ∙ digits_mod (n / 8 / 2 / 2) (lit< tt)))
      go false b p q = refl

  pub object_missing : (n % 8 ≡ 7 → ⊥) → Some ObjectMissing ≡ end_fault (seen_of n)
  unfolding end_fault seen_of
  object_missing h = simp (not_three h)

  module _ (h : n % 8 ≡ 7) where
    pub mask_missing : n / 8 % 4 ≡ 2 → Some MaskMissing ≡ end_fault (seen_of n)
    unfolding end_fault seen_of
    mask_missing k = simp (all_three h, wanted k)

    module _ (k : n / 8 % 4 ≡ 2 → ⊥) where
      pub control_missing : n / 32 % 2 ≡ 1 → Some ControlMissing ≡ end_fault (seen_of n)
      unfolding end_fault seen_of bit
      control_missing c = simp (all_three h, not_wanted k, eq-eqb (n / 32 % 2) 1 c)

      pub nothing_missing : (n / 32 % 2 ≡ 1 → ⊥) → None ≡ end_fault (seen_of n)
      unfolding end_fault seen_of bit
      nothing_missing c = simp (all_three h, not_wanted k, ne_eqb (n / 32 % 2) 1 c)
