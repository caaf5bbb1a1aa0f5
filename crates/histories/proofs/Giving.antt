-- What a return does to a table: the token that it names loses the types, and nothing else changes. Assumes nothing.
use Rattle.std.specs.Prelude.{if◌then◌else◌}
use mathlib.Core.Path.{◌≡◌, refl, sym, ◌∙◌, ap}
use mathlib.Core.Bool.{Bool, true, false, not}
use mathlib.Core.List.{List, []}
use Prim.Native.Nat.{ℕ, ◌<◌}
use native.Mathlib.Nat.{le_of_eq}
use borrow.Author.Tests.{eqb-true}
use lib.Dec.{eqb}
use lib.ListN.{length}
use Rattle.words.specs.Test.{any_of}
use Rattle.words.specs.Said.{Said, done, refused}
use Rattle.words.specs.Bit.{bit}
use Rattle.words.proofs.Tests.{differ, and_left, and_right}
use Rattle.words.proofs.Left.{not_done}
use Rattle.claims.specs.Types.{without, lacks}
use Rattle.claims.specs.Claim.{with_types, unfit}
use Rattle.claims.specs.declared.claim.Claim.{Claim}
use Rattle.claims.proofs.Fewer.{in_without}
use Rattle.claims.proofs.Within.{Within}
use Rattle.table.specs.Table.{Table, limit}
use Rattle.table.specs.declared.slot.Slot.{Slot}
use Rattle.table.specs.declared.slot.Slot.TheVariants.{Free, Held}
use Rattle.returns.specs.Return.{is_of, types_in, keeps, loses, place_in, token_in, return_says, returned}
use Rattle.returns.proofs.Kept.{return_order}
use Rattle.histories.specs.History.{Return}
use Rattle.histories.specs.Callback.{slot_at}
use Rattle.histories.proofs.Answers.{same_values_lem}
use Rattle.histories.proofs.Places.{place_in_lem, there, at_set}
use Rattle.histories.proofs.Soundness.{Sound, Shrunk, shrunk_apart}
use Rattle.histories.proofs.Spelling.{next}

-- a slot that is free now, or whose token is the old one with fewer types
pub record Kept (number : ℕ) (a : Claim) (other : ℕ) (b : Claim) : Type 0 where
  pub number_same : number ≡ other
  pub same : a ≡ with_types b a.types
  pub fewer : (i : ℕ) → bit i a.types ≡ true → bit i b.types ≡ true

unfoldable pub KeptSlot : Slot → Slot → Type 0
KeptSlot Free slot = Unit {0}
KeptSlot (Held number a) Free = ⊥
KeptSlot (Held number a) (Held other b) = Kept number a other b

pub kept_refl : (slot : Slot) → KeptSlot slot slot
unfolding KeptSlot
kept_refl Free = tt
kept_refl (Held number a) = record { number_same = refl; same = refl; fewer = λ i e. e }

pub kept_trans : (s₂ s₁ s₀ : Slot) → KeptSlot s₂ s₁ → KeptSlot s₁ s₀ → KeptSlot s₂ s₀
unfolding KeptSlot
kept_trans Free s₁ s₀ w v = tt
kept_trans (Held n a) Free s₀ w v = absurd w
kept_trans (Held n a) (Held m b) Free w v = absurd v
kept_trans (Held n a) (Held m b) (Held k c) w v = record {
  number_same = w.number_same ∙ v.number_same;
  same = w.same ∙ ap (λ (x : Claim). with_types x a.types) v.same;
  fewer = λ i e. v.fewer i (w.fewer i e);
}

pub within : (n m : ℕ) (a b : Claim) → Kept n a m b → Within a b
within n m a b w = record {
  types = w.fewer;
  host = ap (λ (x : Claim). x.host) w.same;
  file = ap (λ (x : Claim). x.file) w.same;
  first = le_of_eq (sym (ap (λ (x : Claim). x.first) w.same));
  last = le_of_eq (ap (λ (x : Claim). x.last) w.same);
}

kept_shrunk : (s s₀ : Slot) → KeptSlot s s₀ → Shrunk s s₀
unfolding KeptSlot Shrunk
kept_shrunk Free s₀ w = tt
kept_shrunk (Held n a) Free w = w
kept_shrunk (Held n a) (Held m b) w = record { number_same = w.number_same; within = within n m a b w }

loses_kept : (types : ℕ) (slot : Slot) → KeptSlot (loses types slot) slot
unfolding KeptSlot loses keeps
loses_kept types Free = tt
loses_kept types (Held number held) = go (eqb (without held.types types) 0)
  where
    go : (b : Bool) → KeptSlot (if b then Free else Held number (with_types held (without held.types types))) (Held number held)
    go true = tt
    go false = record { number_same = refl; same = refl; fewer = λ i e. (in_without held.types types i e).0 }

-- a return that is done has found the token, and answers without a value
ladder : (a b c : Bool) (values : List ℕ) → (if a then refused 31 [] else if not b then refused 36 [] else if c then refused 37 [] else done []) ≡ done values
    → (b ≡ true) × ([] ≡ values)
ladder true b c values z = absurd (not_done 31 [] values z)
ladder false false c values z = absurd (not_done 36 [] values z)
ladder false true true values z = absurd (not_done 37 [] values z)
ladder false true false values z = (refl, same_values_lem [] values z)

module _ (given : Return) (t : Table) where
  abbrev pub says : Said
  says = return_says given.host given.number given.types t

  abbrev pub place : ℕ
  place = place_in given.host given.number given.types t

  abbrev pub gave : Table
  gave = returned given.host given.number given.types t

  unfoldable pub give : Table
  give = next says gave t

  -- what a return that is done tells of the token
  pub record Taken : Type 0 where
    pub claim : Claim
    pub at : slot_at t place ≡ Held given.number claim
    pub host : claim.host ≡ given.host
    pub inside : place < length t.slots

  passed : (values : List ℕ) → says ≡ done values → (any_of (is_of given.host given.number) t.slots ≡ true) × ([] ≡ values)
  unfolding return_says
  passed values e = ladder (unfit given.host given.types (limit t)) (any_of (is_of given.host given.number) t.slots)
      (lacks (types_in (token_in given.host given.number given.types t)) given.types) values e

  pub no_value : (values : List ℕ) → says ≡ done values → says ≡ done []
  no_value values e = e ∙ ap done (sym (passed values e).1)

  pub taken : (values : List ℕ) → says ≡ done values → Taken
  unfolding place_in is_of
  taken values e = token (slot_at t place) refl (there (is_of given.host given.number) t.slots (passed values e).0)
    where
      token : (slot : Slot) → slot_at t place ≡ slot → is_of given.host given.number slot ≡ true → Taken
      token Free p q = absurd (differ (sym q))
      token (Held number held) p q =
          let s = eqb number given.number in
          let o = eqb held.host given.host in
          record {
            claim = held;
            at = rw (eqb-true number given.number (and_left s o q)) at p;
            host = eqb-true held.host given.host (and_right s o q);
            inside = place_in_lem (is_of given.host given.number) t.slots (passed values e).0;
          }

  gave_kept : (values : List ℕ) → says ≡ done values → (i : ℕ) → KeptSlot (slot_at gave i) (slot_at t i)
  unfolding returned token_in
  gave_kept values e i =
      at_set (λ s. KeptSlot s (slot_at t i)) t.slots place i (loses given.types (slot_at t place)) (taken values e).inside
      (λ z. rw z (loses_kept given.types (slot_at t place)))
      (λ d. kept_refl (slot_at t i))

  pub give_kept : (i : ℕ) → KeptSlot (slot_at give i) (slot_at t i)
  unfolding give next
  give_kept i = go says refl
    where
      go : (said : Said) → says ≡ said → KeptSlot (slot_at (next said gave t) i) (slot_at t i)
      go (done values) e = gave_kept values e i
      go (refused number values) e = kept_refl (slot_at t i)

  pub gave_sound : Sound t → (values : List ℕ) → says ≡ done values → Sound gave
  unfolding returned
  gave_sound sound values e = record {
    order = (return_order t sound.order given.host given.number given.types).0;
    all = shrunk_apart t gave.slots sound.all (λ i. kept_shrunk (slot_at gave i) (slot_at t i) (gave_kept values e i));
  }

  pub give_sound : Sound t → Sound give
  unfolding give next
  give_sound sound = go says refl
    where
      go : (said : Said) → says ≡ said → Sound (next said gave t)
      go (done values) e = gave_sound sound values e
      go (refused number values) e = sound

  pub give_limit : limit give ≡ limit t
  unfolding limit
  give_limit = refl

  -- after a return that is done, and after one that is not
  pub give_done : (values : List ℕ) → says ≡ done values → give ≡ gave
  unfolding give next
  give_done values e = rw e refl

  pub give_refused : (number : ℕ) (values : List ℕ) → says ≡ refused number values → give ≡ t
  unfolding give next
  give_refused number values e = rw e refl
