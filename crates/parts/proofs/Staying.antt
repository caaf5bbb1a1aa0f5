-- The claims that stay, case by case. Assumes nothing.
use Rattle.std.specs.Prelude.{if◌then◌else◌}
use mathlib.Core.Path.{◌≡◌, refl, sym, subst}
use mathlib.Core.Bool.{Bool, true, false, not, ◌||◌, ◌&&◌}
use mathlib.Core.List.Memᴰ
use mathlib.Core.List.{List, [], ◌∷◌, ◌++◌, Memᴰ}
use mathlib.Core.Logic.{◌≢◌}
use Prim.Native.Nat.{ℕ, ◌+◌, ◌-◌, ◌≤◌, ◌<◌}
use native.Mathlib.Omega.{arith}
use borrow.Author.Tests.{eqb-true, eqb-false, ne_eqb, leb-true, ltb-true, lt-ltb, not-true}
use lib.Dec.{eqb, leb, ltb}
use lib.ListN.{length}
use Rattle.words.specs.Said.{done, refused}
use Rattle.words.proofs.Tests.{and_left, and_right}
use Rattle.words.proofs.Left.{not_done}
use Rattle.claims.specs.Types.{without, lacks}
use Rattle.claims.specs.Claim.{with_types, with_range}
use Rattle.claims.specs.Rule.{some_cover}
use Rattle.claims.specs.declared.claim.Claim.{Claim}
use Rattle.parts.specs.Part.{is_whole, is_part, is_givable, first_refusal, loss_says, types_left, bytes_before, bytes_after, kept}

only : (P : Claim → Type 0) {x claim : Claim} → P x → Memᴰ claim (x ∷ []) → P claim
only P q (Memᴰ.head p) = subst P (sym p) q
only P q (Memᴰ.tail m) = absurd (Memᴰ.not-nil m)

module _ (types first last : ℕ) (held : Claim) where
  abbrev fewer : Claim
  fewer = with_types held (without held.types types)

  abbrev before : Claim
  before = with_range held held.first (first - 1)

  abbrev after : Claim
  after = with_range held (last + 1) held.last

  -- what a return that is not refused names: the whole range, or a part that may be given back
  pub record Part : Type 0 where
    pub other : is_whole first last held ≡ false
    pub starts : held.first ≤ first
    pub ends : last ≤ held.last
    pub all_types : types ≡ held.types
    pub by_bytes : some_cover types ≡ false

  pub data Allowed : Type 0 where
    whole : is_whole first last held ≡ true → Allowed
    part : Part → Allowed

  is_part_lem : is_whole first last held ≡ false → is_part types first last held ≡ true → Part
  unfolding is_part
  is_part_lem w e =
      let starts = leb held.first first in
      let ends = leb last held.last in
      let same = eqb types held.types in
      let three = and_left (starts && ends && same) (not (some_cover types)) e in
      let two = and_left (starts && ends) same three in
      record {
        other = w;
        starts = leb-true held.first first (and_left starts ends two);
        ends = leb-true last held.last (and_right starts ends two);
        all_types = eqb-true types held.types (and_right (starts && ends) same three);
        by_bytes = not-true (some_cover types) (and_right (starts && ends && same) (not (some_cover types)) e);
      }

  pub allowed : (values : List ℕ) → loss_says types first last held ≡ done values → (lacks held.types types ≡ false) × Allowed
  unfolding loss_says first_refusal is_givable
  allowed values e = go (lacks held.types types) refl (is_whole first last held) refl (is_part types first last held) refl e
    where
      go : (a : Bool) → lacks held.types types ≡ a → (b : Bool) → is_whole first last held ≡ b → (c : Bool) → is_part types first last held ≡ c
          → (if a then refused 37 [] else if not (b || c) then refused 38 [] else done []) ≡ done values → (lacks held.types types ≡ false) × Allowed
      go true p b q c r z = absurd (not_done 37 [] values z)
      go false p true q c r z = (p, whole q)
      go false p false q true r z = (p, part (is_part_lem q r))
      go false p false q false r z = absurd (not_done 38 [] values z)

  pub whole_range : is_whole first last held ≡ true → (first ≡ held.first) × (last ≡ held.last)
  unfolding is_whole
  whole_range e =
      let starts = eqb first held.first in
      let ends = eqb last held.last in
      (eqb-true first held.first (and_left starts ends e), eqb-true last held.last (and_right starts ends e))

  -- each claim that stays is one of three
  pub each_kept : (P : Claim → Type 0) → (is_whole first last held ≡ true → without held.types types ≢ 0 → P fewer)
      → (is_whole first last held ≡ false → held.first < first → P before) → (is_whole first last held ≡ false → last < held.last → P after)
      → (claim : Claim) → Memᴰ claim (kept types first last held) → P claim
  unfolding kept types_left bytes_before bytes_after
  each_kept P f g h claim m = go (is_whole first last held) refl (eqb (without held.types types) 0) refl (ltb held.first first) refl (ltb last held.last) refl m
    where
      go : (w : Bool) → is_whole first last held ≡ w → (z : Bool) → eqb (without held.types types) 0 ≡ z
          → (a : Bool) → ltb held.first first ≡ a → (b : Bool) → ltb last held.last ≡ b
          → Memᴰ claim (if w then (if z then [] else fewer ∷ []) else (if a then before ∷ [] else []) ++ (if b then after ∷ [] else [])) → P claim
      go true p true q a r b s m = absurd (Memᴰ.not-nil m)
      go true p false q a r b s m = only P (f p (eqb-false (without held.types types) 0 q)) m
      go false p z q true r true s (Memᴰ.head e) = subst P (sym e) (g p (ltb-true held.first first r))
      go false p z q true r true s (Memᴰ.tail m) = only P (h p (ltb-true last held.last s)) m
      go false p z q true r false s m = only P (g p (ltb-true held.first first r)) m
      go false p z q false r true s m = only P (h p (ltb-true last held.last s)) m
      go false p z q false r false s m = absurd (Memᴰ.not-nil m)

  -- of the token's host and file
  pub kept_same : (claim : Claim) → Memᴰ claim (kept types first last held) → (claim.host ≡ held.host) × (claim.file ≡ held.file)
  kept_same = each_kept (λ c. (c.host ≡ held.host) × (c.file ≡ held.file)) (λ _ _. (refl, refl)) (λ _ _. (refl, refl)) (λ _ _. (refl, refl))

  -- and each of the three stays
  pub kept_whole : is_whole first last held ≡ true → kept types first last held ≡ types_left types held
  unfolding kept
  kept_whole w = rw w refl

  pub fewer_stays : is_whole first last held ≡ true → without held.types types ≢ 0 → Memᴰ fewer (kept types first last held)
  unfolding types_left
  fewer_stays w some = rw (kept_whole w, ne_eqb (without held.types types) 0 some) (Memᴰ.head refl)

  pub before_stays : is_whole first last held ≡ false → held.first < first → Memᴰ before (kept types first last held)
  unfolding kept bytes_before
  before_stays w h = rw (w, lt-ltb held.first first h) (Memᴰ.head refl)

  pub after_stays : is_whole first last held ≡ false → last < held.last → Memᴰ after (kept types first last held)
  unfolding kept bytes_before bytes_after
  after_stays w h = rw (w, lt-ltb last held.last h) (go (ltb held.first first))
    where
      go : (a : Bool) → Memᴰ after ((if a then before ∷ [] else []) ++ after ∷ [])
      go true = Memᴰ.tail (Memᴰ.head refl)
      go false = Memᴰ.head refl

  -- two at most
  pub kept_few : length (kept types first last held) ≤ 2
  unfolding kept types_left bytes_before bytes_after
  kept_few = go (is_whole first last held) (eqb (without held.types types) 0) (ltb held.first first) (ltb last held.last)
    where
      go : (w z a b : Bool) → length (if w then (if z then [] else fewer ∷ []) else (if a then before ∷ [] else []) ++ (if b then after ∷ [] else [])) ≤ 2
      go true true a b = omega arith
      go true false a b = omega arith
      go false z true true = omega arith
      go false z true false = omega arith
      go false z false true = omega arith
      go false z false false = omega arith
