-- The computed range is the widest one, and there is one widest range. Assumes nothing.
use Rattle.std.specs.Prelude.{if◌then◌else◌}
use mathlib.Core.Path.{◌≡◌, refl, sym, ◌∙◌, ap}
use mathlib.Core.Bool.{Bool, true, false}
use mathlib.Core.List.Memᴰ
use mathlib.Core.List.{List, [], ◌∷◌, foldl, Memᴰ}
use mathlib.Core.Logic.{◌⊎◌, inl, inr, ◌≢◌}
use Prim.Native.Nat.{ℕ, ◌+◌, ◌-◌, ◌≤◌, ◌<◌}
use native.Mathlib.Nat.{le_refl}
use native.Mathlib.Omega.{arith}
use borrow.Author.Tests.{eqb-false, ltb-true, ltb-false, not-true}
use lib.Dec.{eqb, ltb}
use Rattle.words.proofs.Tests.{differ}
use Rattle.claims.specs.Claim.{with_range}
use Rattle.claims.specs.Rule.{conflict}
use Rattle.claims.specs.declared.claim.Claim.{Claim}
use Rattle.claims.proofs.Ranges.{clear, elsewhere}
use Rattle.table.specs.Table.{Table}
use Rattle.table.specs.declared.slot.Slot.{Slot}
use Rattle.table.specs.declared.slot.Slot.TheVariants.{Free, Held}
use Rattle.widest.specs.Widest.{last_byte, Widest, later, earlier, is_rival, beside, narrowed, widened}
use Rattle.widest.proofs.Narrowed.{no_rival}

-- a range about the asked one
pub record About (asked wide : Claim) : Type 0 where
  pub same : wide ≡ with_range asked wide.first wide.last
  pub first : wide.first ≤ asked.first
  pub last : asked.last ≤ wide.last
  pub ends : wide.last ≤ last_byte

-- what is left of a range beside tokens that pass a test, which any range about the asked one that serves lies within
record Left (asked wide left : Claim) (Rival : Claim → Type 0) : Type 0 where
  about : About asked left
  first : wide.first ≤ left.first
  last : left.last ≤ wide.last
  apart : (held : Claim) → Rival held → conflict held left ≡ 0
  most : (f l : ℕ) → f ≤ asked.first → asked.last ≤ l → ((held : Claim) → Rival held → conflict held (with_range asked f l) ≡ 0)
      → wide.first ≤ f → l ≤ wide.last → (left.first ≤ f) × (l ≤ left.last)

above : (m n : ℕ) → (m ≤ n → ⊥) → n < m
above m n h = go (ltb n m) refl
  where
    go : (b : Bool) → ltb n m ≡ b → n < m
    go true e = ltb-true n m e
    go false e = absurd (h (ltb-false n m e))

-- the later of two bytes is after both, and the first to be so; the earlier is before both
module _ (m n : ℕ) where
  later_far : (m ≤ later m n) × (n ≤ later m n)
  unfolding later
  later_far = go (ltb m n) refl
    where
      go : (b : Bool) → ltb m n ≡ b → (m ≤ (if b then n else m)) × (n ≤ (if b then n else m))
      go true e = (omega (arith, ltb-true m n e), le_refl n)
      go false e = (le_refl m, ltb-false m n e)

  later_least : (k : ℕ) → m ≤ k → n ≤ k → later m n ≤ k
  unfolding later
  later_least k p q = go (ltb m n)
    where
      go : (b : Bool) → (if b then n else m) ≤ k
      go true = q
      go false = p

  earlier_near : (earlier m n ≤ m) × (earlier m n ≤ n)
  unfolding earlier
  earlier_near = go (ltb n m) refl
    where
      go : (b : Bool) → ltb n m ≡ b → ((if b then n else m) ≤ m) × ((if b then n else m) ≤ n)
      go true e = (omega (arith, ltb-true n m e), le_refl n)
      go false e = (le_refl m, ltb-false n m e)

  earlier_most : (k : ℕ) → k ≤ m → k ≤ n → k ≤ earlier m n
  unfolding earlier
  earlier_most k p q = go (ltb n m)
    where
      go : (b : Bool) → k ≤ (if b then n else m)
      go true = q
      go false = p

-- one token that is not in the way of the asked range
module _ (asked wide held : Claim) (about : About asked wide) (shaped : asked.first ≤ asked.last) (ordered : held.first ≤ held.last)
    (harmless : conflict held asked ≡ 0) where
  of_one : (left : Claim) → About asked left → wide.first ≤ left.first → left.last ≤ wide.last → conflict held left ≡ 0
      → ((f l : ℕ) → f ≤ asked.first → asked.last ≤ l → conflict held (with_range asked f l) ≡ 0 → wide.first ≤ f → l ≤ wide.last → (left.first ≤ f) × (l ≤ left.last))
      → Left asked wide left (λ other. other ≡ held)
  of_one left there first last none most = record {
    about = there;
    first = first;
    last = last;
    apart = λ other e. ap (λ (c : Claim). conflict c left) e ∙ none;
    most = λ f l p q free. most f l p q (free held refl);
  }

  module _ (some : is_rival asked held ≡ true) where
    rival : conflict held (with_range asked 0 last_byte) ≢ 0
    unfolding is_rival
    rival = eqb-false (conflict held (with_range asked 0 last_byte)) 0 (not-true (eqb (conflict held (with_range asked 0 last_byte)) 0) some)

    before_it : held.last < asked.first → Left asked wide (with_range asked (later wide.first (held.last + 1)) wide.last) (λ other. other ≡ held)
    before_it h =
        let far = later_far wide.first (held.last + 1) in
        of_one (with_range asked (later wide.first (held.last + 1)) wide.last)
        (record { same = refl; first = later_least wide.first (held.last + 1) asked.first about.first (omega arith); last = about.last; ends = about.ends })
        far.0 (le_refl wide.last)
        (clear held asked asked.first asked.last (later wide.first (held.last + 1)) wide.last harmless (λ p q. absurd (omega (arith, q, far.1))))
        (λ f l p q free lo hi.
        let after : held.last < f = above f held.last (λ e. elsewhere held asked 0 last_byte f l rival free (omega (arith, h, p, q, e, shaped, ordered)) e) in
        (later_least wide.first (held.last + 1) f lo (omega (arith, after)), hi))

    after_it : asked.last < held.first → Left asked wide (with_range asked wide.first (earlier wide.last (held.first - 1))) (λ other. other ≡ held)
    after_it h =
        let near = earlier_near wide.last (held.first - 1) in
        of_one (with_range asked wide.first (earlier wide.last (held.first - 1)))
        (record { same = refl; first = about.first; last = earlier_most wide.last (held.first - 1) asked.last about.last (omega arith); ends = omega (arith, near.0, about.ends) })
        (le_refl wide.first) near.0
        (clear held asked asked.first asked.last wide.first (earlier wide.last (held.first - 1)) harmless (λ p q. absurd (omega (arith, p, h, near.1))))
        (λ f l p q free lo hi.
        let before : l < held.first = above held.first l (λ e. elsewhere held asked 0 last_byte f l rival free e (omega (arith, h, p, q, e, shaped, ordered))) in
        (lo, earlier_most wide.last (held.first - 1) l hi (omega (arith, before))))

    beside_it : Left asked wide (beside asked wide held) (λ other. other ≡ held)
    unfolding beside
    beside_it = go (ltb held.last asked.first) (ltb asked.last held.first) refl refl
      where
        go : (b c : Bool) → ltb held.last asked.first ≡ b → ltb asked.last held.first ≡ c
            → Left asked wide (if b then with_range asked (later wide.first (held.last + 1)) wide.last else
            if c then with_range asked wide.first (earlier wide.last (held.first - 1)) else wide) (λ other. other ≡ held)
        go true c q r = before_it (ltb-true held.last asked.first q)
        go false true q r = after_it (ltb-true asked.last held.first r)
        go false false q r =
            absurd (elsewhere held asked 0 last_byte asked.first asked.last rival harmless (ltb-false asked.last held.first r) (ltb-false held.last asked.first q))

  one_left : Left asked wide (if is_rival asked held then beside asked wide held else wide) (λ other. other ≡ held)
  one_left = go (is_rival asked held) refl
    where
      go : (b : Bool) → is_rival asked held ≡ b → Left asked wide (if b then beside asked wide held else wide) (λ other. other ≡ held)
      go true e = beside_it e
      go false e =
          of_one wide about (le_refl wide.first) (le_refl wide.last) (ap (conflict held) about.same ∙ no_rival held asked e wide.first wide.last about.ends)
          (λ f l a z free lo hi. (lo, hi))

-- the tokens of some slots
abbrev pub Token : List Slot → Claim → Type 0
Token slots held = (number : ℕ) × Memᴰ (Held number held) slots

not_free : (number : ℕ) (held : Claim) → Held number held ≡ Free → ⊥
not_free number held e = differ (sym (ap is_free e))
  where
    is_free : Slot → Bool
    is_free Free = true
    is_free (Held n c) = false

same_claim : (number other : ℕ) (a b : Claim) → Held number a ≡ Held other b → a ≡ b
same_claim number other a b e = ap claim_of e
  where
    claim_of : Slot → Claim
    claim_of Free = a
    claim_of (Held n c) = c

-- what a token and then others leave
module _ (asked wide next left : Claim) {Rival Other All : Claim → Type 0} (one : Left asked wide next Rival) (rest : Left asked next left Other)
    (each : (held : Claim) → All held → Rival held ⊎ Other held) (rival : (held : Claim) → Rival held → All held) (other : (held : Claim) → Other held → All held) where
  apart_still : (held : Claim) → conflict held next ≡ 0 → conflict held left ≡ 0
  apart_still held none =
      ap (conflict held) rest.about.same
      ∙ clear held asked next.first next.last left.first left.last (sym (ap (conflict held) one.about.same) ∙ none) (λ p q. (omega (arith, p, rest.last), omega (arith, q, rest.first)))

  then_others : Left asked wide left All
  then_others = record {
    about = rest.about;
    first = omega (arith, one.first, rest.first);
    last = omega (arith, one.last, rest.last);
    apart = λ held a. either held (each held a);
    most = λ f l p q free lo hi.
        let w = one.most f l p q (λ held r. free held (rival held r)) lo hi in
        rest.most f l p q (λ held o. free held (other held o)) w.0 w.1;
  }
    where
      either : (held : Claim) → Rival held ⊎ Other held → conflict held left ≡ 0
      either held (inl r) = apart_still held (one.apart held r)
      either held (inr o) = rest.apart held o

module _ (asked : Claim) (shaped : asked.first ≤ asked.last) where
  abbrev after_one : Claim → Claim → Claim
  after_one wide held = if is_rival asked held then beside asked wide held else wide

  all_left : (slots : List Slot) (wide : Claim) → About asked wide → ((held : Claim) → Token slots held → (held.first ≤ held.last) × (conflict held asked ≡ 0))
      → Left asked wide (foldl (narrowed asked) wide slots) (Token slots)
  unfolding narrowed
  all_left [] wide about fit = record {
    about = about;
    first = le_refl wide.first;
    last = le_refl wide.last;
    apart = λ held t. absurd (Memᴰ.not-nil t.1);
    most = λ f l p q free lo hi. (lo, hi);
  }
  all_left (Free ∷ slots) wide about fit =
      let rest = all_left slots wide about (λ held t. fit held (t.0, Memᴰ.tail t.1)) in
      record {
        about = rest.about;
        first = rest.first;
        last = rest.last;
        apart = λ held t. rest.apart held (t.0, later t.0 held (Memᴰ.cases_cons t.1));
        most = λ f l p q free. rest.most f l p q (λ held t. free held (t.0, Memᴰ.tail t.1));
      }
    where
      later : (number : ℕ) (held : Claim) → (Held number held ≡ Free) ⊎ Memᴰ (Held number held) slots → Memᴰ (Held number held) slots
      later number held (inl e) = absurd (not_free number held e)
      later number held (inr m) = m
  all_left (Held n token ∷ slots) wide about fit =
      let mine = fit token (n, Memᴰ.head refl) in
      let one = one_left asked wide token about shaped mine.0 mine.1 in
      then_others asked wide (after_one wide token) (foldl (narrowed asked) (after_one wide token) slots) one
      (all_left slots (after_one wide token) one.about (λ held t. fit held (t.0, Memᴰ.tail t.1)))
      (λ held t. which held t.0 (Memᴰ.cases_cons t.1))
      (λ held e. (n, Memᴰ.head (ap (Held n) e)))
      (λ held t. (t.0, Memᴰ.tail t.1))
    where
      which : (held : Claim) (number : ℕ) → (Held number held ≡ Held n token) ⊎ Memᴰ (Held number held) slots → (held ≡ token) ⊎ Token slots held
      which held number (inl e) = inl (same_claim number n held token e)
      which held number (inr m) = inr (number, m)

-- where tokens and claim have bytes in order, and no token is in the claim's way
module _ (t : Table) (claim : Claim) (shaped : claim.first ≤ claim.last) (ends : claim.last ≤ last_byte)
    (fit : (held : Claim) → Token t.slots held → (held.first ≤ held.last) × (conflict held claim ≡ 0)) where
  left : Left claim (with_range claim 0 last_byte) (widened claim t) (Token t.slots)
  unfolding widened
  left = all_left claim shaped t.slots (with_range claim 0 last_byte) (record { same = refl; first = omega arith; last = ends; ends = le_refl last_byte }) fit

  pub widened_widest : Widest t claim (widened claim t).first (widened claim t).last
  widened_widest = record {
    serves = record {
      holds = (left.about.first, left.about.last);
      ends = left.about.ends;
      with_nobody = λ number held m. sym (ap (conflict held) left.about.same) ∙ left.apart held (number, m);
    };
    largest = λ f l s. left.most f l s.holds.0 s.holds.1 (λ held o. s.with_nobody o.0 held o.1) (omega arith) s.ends;
  }

-- there is but one
pub one_widest : (t : Table) (claim : Claim) (f l f' l' : ℕ) → Widest t claim f l → Widest t claim f' l' → (f ≡ f') × (l ≡ l')
one_widest t claim f l f' l' p q =
    let a = p.largest f' l' q.serves in
    let b = q.largest f l p.serves in
    (omega (arith, a.0, b.0), omega (arith, a.1, b.1))
