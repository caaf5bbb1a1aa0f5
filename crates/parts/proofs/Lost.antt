-- What is refused and what stays, by the tests that the code makes. Assumes nothing.
use mathlib.Core.Path.{◌≡◌, refl, ◌∙◌}
use mathlib.Core.Bool.{Bool, true, false}
use mathlib.Core.List.{[], ◌∷◌, ◌++◌}
use Prim.Native.Nat.{ℕ, ◌+◌, ◌-◌, ◌≤◌, ◌<◌}
use borrow.Author.Tests.{ne_eqb, lt-ltb, le-ltb}
use Rattle.std.specs.Prelude.{None, Some}
use Rattle.words.specs.Refusal.{refusal_number, refusal_value, values_in, refusal_says}
use Rattle.words.specs.declared.refusal.Refusal.TheVariants.{TypeLacking, NoSuchPart}
use Rattle.claims.specs.Types.{without, lacks}
use Rattle.claims.specs.Claim.{with_types, with_range}
use Rattle.claims.specs.declared.claim.Claim.{Claim}
use Rattle.parts.specs.Part.{is_whole, is_part, is_givable, first_refusal, types_left, bytes_before, bytes_after, kept, loss_says, unless, Refuses, claims_in, Stays}
use Rattle.parts.specs.declared.losing.Kept.{Kept}
use Rattle.parts.specs.declared.losing.Kept.TheVariants.{Nothing, One, Two}

-- 37, 38
module _ (types first last : ℕ) (held : Claim) {lacking fits : Bool} (lacks-is : lacking ≡ lacks held.types types) (fits-is : fits ≡ is_givable types first last held) where
  pub type_lacking : lacking ≡ true → Refuses types first last held (Some TypeLacking)
  unfolding loss_says first_refusal unless refusal_says refusal_number refusal_value values_in
  type_lacking e = record { answer = rw (← lacks-is, e) refl }

  pub no_such_part : lacking ≡ false → fits ≡ false → Refuses types first last held (Some NoSuchPart)
  unfolding loss_says first_refusal unless refusal_says refusal_number refusal_value values_in
  no_such_part e f = record { answer = rw (← lacks-is, ← fits-is, e, f) refl }

  pub none_refused : lacking ≡ false → fits ≡ true → Refuses types first last held None
  unfolding loss_says first_refusal unless
  none_refused e f = record { answer = rw (← lacks-is, ← fits-is, e, f) refl }

module _ (types first last : ℕ) (held : Claim) where
  -- the whole range, or a part
  module _ {b : Bool} (whole : b ≡ is_whole first last held) where
    pub whole_givable : b ≡ true → true ≡ is_givable types first last held
    unfolding is_givable
    whole_givable e = rw (← whole, e) refl

    pub part_givable : b ≡ false → {c : Bool} → c ≡ is_part types first last held → c ≡ is_givable types first last held
    unfolding is_givable
    part_givable e p = p ∙ rw (← whole, e) refl

  -- the whole range, or another
  module _ {b : Bool} (whole : b ≡ is_whole first last held) {r : Kept} where
    pub of_whole : b ≡ true → claims_in r ≡ types_left types held → Stays types first last held r
    unfolding kept
    of_whole e p = record { answer = p ∙ rw (← whole, e) refl }

    pub of_other : b ≡ false → claims_in r ≡ bytes_before first held ++ bytes_after last held → Stays types first last held r
    unfolding kept
    of_other e p = record { answer = p ∙ rw (← whole, e) refl }

  -- the types that are not named
  module _ {n : ℕ} (left : n ≡ without held.types types) where
    pub no_type : n ≡ 0 → claims_in Nothing ≡ types_left types held
    unfolding claims_in types_left
    no_type e = rw (← left, e) refl

    pub some_type_lem : (n ≡ 0 → ⊥) → {claim : Claim} → claim ≡ with_types held n → claims_in (One claim) ≡ types_left types held
    unfolding claims_in types_left
    some_type_lem e p = rw (p, ← left, ne_eqb n 0 e) refl

  -- the bytes on either side
  none_before : first ≤ held.first → bytes_before first held ≡ []
  unfolding bytes_before
  none_before h = rw (le-ltb held.first first h) refl

  some_before : held.first < first → bytes_before first held ≡ with_range held held.first (first - 1) ∷ []
  unfolding bytes_before
  some_before h = rw (lt-ltb held.first first h) refl

  none_after : held.last ≤ last → bytes_after last held ≡ []
  unfolding bytes_after
  none_after h = rw (le-ltb last held.last h) refl

  some_after : last < held.last → bytes_after last held ≡ with_range held (last + 1) held.last ∷ []
  unfolding bytes_after
  some_after h = rw (lt-ltb last held.last h) refl

  pub on_neither : first ≤ held.first → held.last ≤ last → claims_in Nothing ≡ bytes_before first held ++ bytes_after last held
  unfolding claims_in
  on_neither h k = rw (none_before h, none_after k) refl

  pub on_the_right : first ≤ held.first → last < held.last → {claim : Claim} → claim ≡ with_range held (last + 1) held.last
      → claims_in (One claim) ≡ bytes_before first held ++ bytes_after last held
  unfolding claims_in
  on_the_right h k p = rw (p, none_before h, some_after k) refl

  pub on_the_left : held.first < first → held.last ≤ last → {claim : Claim} → claim ≡ with_range held held.first (first - 1)
      → claims_in (One claim) ≡ bytes_before first held ++ bytes_after last held
  unfolding claims_in
  on_the_left h k p = rw (p, some_before h, none_after k) refl

  pub on_both : held.first < first → last < held.last → {left right : Claim} → left ≡ with_range held held.first (first - 1) → right ≡ with_range held (last + 1) held.last
      → claims_in (Two left right) ≡ bytes_before first held ++ bytes_after last held
  unfolding claims_in
  on_both h k p q = rw (p, q, some_before h, some_after k) refl
