-- Returns one after the other: what is given back is held no more, and what is held no more was given back. Assumes nothing.
use Rattle.std.specs.Prelude.{if◌then◌else◌, Ok}
use mathlib.Core.Path.{◌≡◌, refl, sym, ◌∙◌, ap, subst}
use mathlib.Core.Bool.{Bool, true, false}
use mathlib.Core.List.Memᴰ
use mathlib.Core.List.{List, [], ◌∷◌, Memᴰ}
use Prim.Native.Nat.{ℕ, ◌<◌}
use native.Mathlib.Decide.{ℕ_discrete}
use native.Mathlib.Omega.{arith}
use borrow.Author.Tests.{eqb-true}
use lib.Dec.{eqb}
use lib.ListN.{get_or, set}
use lib.Seq.{get_or-set_same, get_or-set_other}
use Rattle.words.specs.Said.{Said, done, refused}
use Rattle.words.specs.Bit.{bit}
use Rattle.words.proofs.Tests.{differ}
use Rattle.claims.specs.Types.{kinds, without}
use Rattle.claims.specs.Claim.{with_types}
use Rattle.claims.specs.declared.claim.Claim.{Claim}
use Rattle.claims.proofs.Sets.{nonempty}
use Rattle.claims.proofs.Fewer.{in_without, without_in}
use Rattle.table.specs.Table.{Table, limit}
use Rattle.words.specs.Refusal.{says_by, plain_says}
use Rattle.words.proofs.Refusals.{same_plain}
use Rattle.table.specs.declared.slot.Slot.{Slot}
use Rattle.table.specs.declared.slot.Slot.TheVariants.{Free, Held}
use Rattle.returns.specs.Return.{keeps, loses, token_in, returned}
use Rattle.audit.proofs.Exactly.{tokens_apart}
use Rattle.histories.specs.History.{Return}
use Rattle.histories.specs.Callback.{slot_at, Item, Holds, Turn, GivenBack}
use Rattle.histories.proofs.Soundness.{Sound}
use Rattle.histories.proofs.Giving.{Kept, KeptSlot, kept_refl, kept_trans, says, place, gave, give, Taken, no_value, taken, give_kept, give_sound, give_limit, give_done, give_refused}

-- the table after returns, and the answers that they get
unfoldable pub give_all : List Turn → Table → Table
give_all [] t = t
give_all (turn ∷ turns) t = give_all turns (give turn.given t)

unfoldable pub Answered : List Turn → Table → Type 0
Answered [] t = Unit {0}
Answered (turn ∷ turns) t = (plain_says turn.reply ≡ says turn.given t) × Answered turns (give turn.given t)

-- each slot is free, or holds its old token with fewer types
pub record KeptTable (t t₀ : Table) : Type 0 where
  pub at : (i : ℕ) → KeptSlot (slot_at t i) (slot_at t₀ i)

pub all_kept : (turns : List Turn) (t : Table) → KeptTable (give_all turns t) t
unfolding give_all
all_kept [] t = record { at = λ i. kept_refl (slot_at t i) }
all_kept (turn ∷ turns) t = record {
  at = λ i.
      kept_trans (slot_at (give_all turns (give turn.given t)) i) (slot_at (give turn.given t) i) (slot_at t i)
      ((all_kept turns (give turn.given t)).at i) (give_kept turn.given t i);
}

pub all_sound : (turns : List Turn) (t : Table) → Sound t → Sound (give_all turns t)
unfolding give_all
all_sound [] t sound = sound
all_sound (turn ∷ turns) t sound = all_sound turns (give turn.given t) (give_sound turn.given t sound)

pub all_limit : (turns : List Turn) (t : Table) → limit (give_all turns t) ≡ limit t
unfolding give_all
all_limit [] t = refl
all_limit (turn ∷ turns) t = all_limit turns (give turn.given t) ∙ give_limit turn.given t

not_held : {A : Type 0} {number : ℕ} {claim : Claim} → Free ≡ Held number claim → A
not_held e = absurd (let z : ◌≡◌ {A = ℕ} 0 1 = cc in omega arith)

pub same_number : {number other : ℕ} {a b : Claim} → Held number a ≡ Held other b → number ≡ other
same_number e = cc

pub same_claim : {number other : ℕ} {a b : Claim} → Held number a ≡ Held other b → a ≡ b
same_claim e = cc

-- the token that a kept one was
pub record Was (t₀ : Table) (i number : ℕ) (a : Claim) : Type 0 where
  pub claim : Claim
  pub at : slot_at t₀ i ≡ Held number claim
  pub kept : Kept number a number claim

pub was : (t t₀ : Table) → KeptTable t t₀ → (i number : ℕ) (a : Claim) → slot_at t i ≡ Held number a → Was t₀ i number a
unfolding KeptSlot
was t t₀ k i number a e = go (slot_at t₀ i) refl (rw e at (k.at i))
  where
    go : (slot : Slot) → slot_at t₀ i ≡ slot → KeptSlot (Held number a) slot → Was t₀ i number a
    go Free p w = absurd w
    go (Held other b) p w =
        let z : other ≡ number = sym w.number_same in record { claim = b; at = rw z at p; kept = rw z at w }

-- a number tells a token
pub one_token : (t : Table) → Sound t → (i j number : ℕ) (a b : Claim) → slot_at t i ≡ Held number a → slot_at t j ≡ Held number b → a ≡ b
one_token t sound i j number a b p q = go (ℕ_discrete i j)
  where
    go : Dec (i ≡ j) → a ≡ b
    go (yes e) = let w : slot_at t j ≡ Held number a = rw e at p in same_claim (sym w ∙ q)
    go (no d) = absurd ((tokens_apart number number a b (rw (p, q) at (sound.all.at i j d))).0 refl)

-- nothing comes back by returns
comes_back : (t t₀ : Table) → KeptTable t t₀ → (x : Item) → Holds t x → Holds t₀ x
comes_back t t₀ k x y =
    let o = was t t₀ k y.place x.number y.claim y.at in
    record {
      place = y.place;
      claim = o.claim;
      at = o.at;
      host = sym (ap (λ (c : Claim). c.host) o.kept.same) ∙ y.host;
      type = o.kept.fewer x.type y.type;
    }

-- a type that is lost is not there
lost : (types number : ℕ) (slot : Slot) (a : Claim) → loses types slot ≡ Held number a → (i : ℕ) → bit i a.types ≡ true → bit i types ≡ false
unfolding loses keeps
lost types number Free a e i p = not_held e
lost types number (Held other b) a e i p = go (eqb (without b.types types) 0) e
  where
    go : (c : Bool) → (if c then Free else Held other (with_types b (without b.types types))) ≡ Held number a → bit i types ≡ false
    go true z = not_held z
    go false z = (in_without b.types types i (rw (ap (λ (c : Claim). c.types) (same_claim z)) p)).1

module _ (t : Table) (given : Return) (x : Item) (values : List ℕ) (e : says given t ≡ done values) where
  give_gone : Sound t → given.number ≡ x.number → bit x.type given.types ≡ true → ¬ Holds (give given t) x
  unfolding returned token_in
  give_gone sound n p y = go (ℕ_discrete y.place k)
    where
      o : Taken given t
      o = taken given t values e

      k : ℕ
      k = place given t

      slot : Slot
      slot = loses given.types (slot_at t k)

      w : get_or (set t.slots k slot) y.place Free ≡ Held x.number y.claim
      w = rw (give_done given t values e) at y.at

      go : Dec (y.place ≡ k) → ⊥
      go (yes z) =
          let v : slot ≡ Held x.number y.claim = rw (z, get_or-set_same t.slots k slot Free o.inside) at w in
          differ (sym p ∙ lost given.types x.number (slot_at t k) y.claim v x.type y.type)
      go (no d) =
          let v : slot_at t y.place ≡ Held x.number y.claim = rw (get_or-set_other t.slots k y.place slot Free d) at w in
          (tokens_apart x.number given.number y.claim o.claim (rw (v, o.at) at (sound.all.at y.place k d))).0 (sym n)

-- what a done return named is held no more
pub given_gone : (turns : List Turn) (t : Table) → Sound t → Answered turns t → (x : Item) → GivenBack turns x → ¬ Holds (give_all turns t) x
unfolding give_all Answered says_by
given_gone turns t sound answers x g y = go turns t sound answers g.member y
  where
    go : (turns : List Turn) (t : Table) → Sound t → Answered turns t → Memᴰ g.turn turns → Holds (give_all turns t) x → ⊥
    go [] t sound answers m y = Memᴰ.not-nil m
    go (turn ∷ turns) t sound answers (Memᴰ.head p) y =
        give_gone t turn.given x [] (sym answers.0 ∙ rw (← p, g.done) refl) sound (rw (← p) g.names.number) (rw (← p) g.names.type)
        (comes_back (give_all turns (give turn.given t)) (give turn.given t) (all_kept turns (give turn.given t)) x y)
    go (turn ∷ turns) t sound answers (Memᴰ.tail m) y = go turns (give turn.given t) (give_sound turn.given t sound) answers.1 m y

-- a slot keeps the types that it is not asked to lose
pub record Still (slot : Slot) (number host type : ℕ) : Type 0 where
  pub claim : Claim
  pub at : slot ≡ Held number claim
  pub host_same : claim.host ≡ host
  pub has : bit type claim.types ≡ true

still : (types number type : ℕ) (a : Claim) → type < kinds → bit type a.types ≡ true → bit type types ≡ false → Still (loses types (Held number a)) number a.host type
unfolding loses keeps
still types number type a small p q = go (eqb (without a.types types) 0) refl
  where
    kept : bit type (without a.types types) ≡ true
    kept = without_in a.types types type small p q

    go : (b : Bool) → eqb (without a.types types) 0 ≡ b → Still (if b then Free else Held number (with_types a (without a.types types))) number a.host type
    go true z = absurd (nonempty (without a.types types) type kept (eqb-true (without a.types types) 0 z))
    go false z = record { claim = with_types a (without a.types types); at = refl; host_same = refl; has = kept }

-- a return that does not name it leaves it held
pub give_holds : (t : Table) (given : Return) (x : Item) → x.type < kinds → Holds t x → (values : List ℕ) → says given t ≡ done values
    → (given.number ≡ x.number → given.host ≡ x.host → bit x.type given.types ≡ false) → Holds (give given t) x
unfolding returned token_in
give_holds t given x small y values e f = subst (λ (u : Table). Holds u x) (sym (give_done given t values e)) (go (ℕ_discrete y.place k))
  where
    o : Taken given t
    o = taken given t values e

    k : ℕ
    k = place given t

    go : Dec (y.place ≡ k) → Holds (gave given t) x
    go (no d) = record {
      place = y.place;
      claim = y.claim;
      at = get_or-set_other t.slots k y.place (loses given.types (slot_at t k)) Free d ∙ y.at;
      host = y.host;
      type = y.type;
    }
    go (yes z) =
        let p : slot_at t k ≡ Held x.number y.claim = rw z at y.at in
        let n = same_number (sym o.at ∙ p) in
        let h = sym o.host ∙ ap (λ (a : Claim). a.host) (same_claim (sym o.at ∙ p)) ∙ y.host in
        let w = still given.types x.number x.type y.claim small y.type (f n h) in
        record {
          place = k;
          claim = w.claim;
          at = get_or-set_same t.slots k (loses given.types (slot_at t k)) Free o.inside ∙ ap (loses given.types) p ∙ w.at;
          host = w.host_same ∙ y.host;
          type = w.has;
        }

later : (turn : Turn) (turns : List Turn) (x : Item) → GivenBack turns x → GivenBack (turn ∷ turns) x
later turn turns x g = record { turn = g.turn; member = Memᴰ.tail g.member; done = g.done; names = g.names }

-- what was held and is held no more, a done return named
pub lost_given : (turns : List Turn) (t : Table) → Answered turns t → (x : Item) → x.type < kinds → Holds t x → ¬ Holds (give_all turns t) x → GivenBack turns x
unfolding give_all Answered says_by
lost_given [] t answers x small y f = absurd (f y)
lost_given (turn ∷ turns) t answers x small y f =
    go (says g t) refl (ℕ_discrete g.number x.number) (ℕ_discrete g.host x.host) (bit x.type g.types) refl
    (λ w. later turn turns x (lost_given turns (give g t) answers.1 x small w f))
  where
    g : Return
    g = turn.given

    go : (said : Said) → says g t ≡ said → Dec (g.number ≡ x.number) → Dec (g.host ≡ x.host) → (b : Bool) → bit x.type g.types ≡ b
        → (Holds (give g t) x → GivenBack (turn ∷ turns) x) → GivenBack (turn ∷ turns) x
    go (refused number values) e dn dh b p rest = rest (subst (λ (u : Table). Holds u x) (sym (give_refused g t number values e)) y)
    go (done values) e (no n) dh b p rest = rest (give_holds t g x small y values e (λ z _. absurd (n z)))
    go (done values) e (yes n) (no h) b p rest = rest (give_holds t g x small y values e (λ _ z. absurd (h z)))
    go (done values) e (yes n) (yes h) false p rest = rest (give_holds t g x small y values e (λ _ _. p))
    go (done values) e (yes n) (yes h) true p rest = record {
      turn = turn;
      member = Memᴰ.head refl;
      done = same_plain turn.reply (Ok tt) (answers.0 ∙ no_value g t values e) refl;
      names = record { number = n; host = h; type = p };
    }
