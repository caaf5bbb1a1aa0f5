-- The entries of an ask: each is a token's that is in the way, each such token has one, and they are what the list's bytes say. Assumes nothing.
use mathlib.Core.Path.{◌≡◌, refl, sym, ◌∙◌, ap₂}
use mathlib.Core.Bool.{Bool, true, false, cond}
use mathlib.Core.List.Memᴰ
use mathlib.Core.List.{List, [], ◌∷◌, ◌++◌, map, append_assoc, Memᴰ}
use mathlib.Core.Logic.{◌≢◌, ◌⊎◌, inl, inr}
use Prim.Native.Nat.{ℕ, zero, suc, ◌^◌, ◌<◌}
use native.Mathlib.Omega.{arith}
use borrow.Author.Tests.{eqb-false, not-true}
use lib.Dec.{eqb}
use lib.ListN.{length, get_or}
use lib.Seq.{take_at, drop_at}
use Rattle.words.specs.Test.{those}
use Rattle.words.specs.Number.{number_from, within, number_at}
use Rattle.words.specs.Writing.{digits}
use Rattle.words.proofs.Tests.{Each, those_each, those_pass, each_both, differ}
use Rattle.words.proofs.Written.{digits_number}
use Rattle.claims.specs.Rule.{conflict}
use Rattle.claims.specs.declared.claim.Claim.{Claim}
use Rattle.claims.proofs.Within.{conflict_less}
use Rattle.table.specs.Table.{Table, limit, is_in_the_way}
use Rattle.table.specs.Layout.{joined}
use Rattle.table.specs.declared.slot.Slot.{Slot}
use Rattle.table.specs.declared.slot.Slot.TheVariants.{Free, Held}
use Rattle.table.proofs.Means.{Ordered, InOrder, below_next}
use Rattle.tokens.specs.Ask.{entry_bytes, entry_for, in_the_way, list_for}
use Rattle.histories.specs.Callback.{Entry, entry_in, entries_in}

module _ (claim : Claim) where
  unfoldable pub entry_of : Slot → Entry
  entry_of Free = record { number = 0; host = 0; types = 0 }
  entry_of (Held number held) = record { number = number; host = held.host; types = conflict held claim }

  unfoldable pub entries : List Slot → List Entry
  entries slots = map entry_of (those (is_in_the_way claim) slots)

  -- the token that an entry is of
  pub record Source (slots : List Slot) (e : Entry) : Type 0 where
    pub place : ℕ
    pub number : ℕ
    pub held : Claim
    pub at : get_or slots place Free ≡ Held number held
    pub conflicts : conflict held claim ≢ 0
    pub is : e ≡ entry_of (Held number held)

  further : (slot : Slot) (slots : List Slot) (e : Entry) → Source slots e → Source (slot ∷ slots) e
  further slot slots e s = record { place = suc s.place; number = s.number; held = s.held; at = s.at; conflicts = s.conflicts; is = s.is }

  here : (slot : Slot) (slots : List Slot) (e : Entry) → is_in_the_way claim slot ≡ true → e ≡ entry_of slot → Source (slot ∷ slots) e
  unfolding is_in_the_way
  here Free slots e p q = absurd (differ (sym p))
  here (Held number held) slots e p q = record {
    place = 0;
    number = number;
    held = held;
    at = refl;
    conflicts = eqb-false (conflict held claim) 0 (not-true (eqb (conflict held claim) 0) p);
    is = q;
  }

  pub source : (slots : List Slot) (e : Entry) → Memᴰ e (entries slots) → Source slots e
  unfolding entries those
  source [] e m = absurd (Memᴰ.not-nil m)
  source (slot ∷ slots) e m = go (is_in_the_way claim slot) refl m (source slots e)
    where
      first : is_in_the_way claim slot ≡ true → (e ≡ entry_of slot) ⊎ Memᴰ e (entries slots) → (Memᴰ e (entries slots) → Source slots e) → Source (slot ∷ slots) e
      first p (inl q) rest = here slot slots e p q
      first p (inr q) rest = further slot slots e (rest q)

      go : (b : Bool) → is_in_the_way claim slot ≡ b
          → Memᴰ e (map entry_of (cond b (slot ∷ those (is_in_the_way claim) slots) (those (is_in_the_way claim) slots)))
          → (Memᴰ e (entries slots) → Source slots e) → Source (slot ∷ slots) e
      go true p q rest = first p (Memᴰ.cases_cons q) rest
      go false p q rest = further slot slots e (rest q)

  pub entry_in_lem : (slots : List Slot) (i : ℕ) → is_in_the_way claim (get_or slots i Free) ≡ true → Memᴰ (entry_of (get_or slots i Free)) (entries slots)
  unfolding entries those is_in_the_way
  entry_in_lem [] i e = absurd (differ (sym e))
  entry_in_lem (slot ∷ slots) zero e = rw e (Memᴰ.head refl)
  entry_in_lem (slot ∷ slots) (suc i) e = go (is_in_the_way claim slot) (entry_in_lem slots i e)
    where
      go : (b : Bool) → Memᴰ (entry_of (get_or slots i Free)) (entries slots)
          → Memᴰ (entry_of (get_or slots i Free)) (map entry_of (cond b (slot ∷ those (is_in_the_way claim) slots) (those (is_in_the_way claim) slots)))
      go true m = Memᴰ.tail m
      go false m = m

  -- a slot whose entry's numbers are as wide as their bytes
  unfoldable Readable : Slot → Type 0
  Readable Free = ⊥
  Readable (Held number held) = (number < 256 ^ 8) × (held.host < 256 ^ 2) × (conflict held claim < 256 ^ 2)

  readable : (top next : ℕ) → next < 256 ^ 8 → (slot : Slot) → Ordered top next slot → is_in_the_way claim slot ≡ true → Readable slot
  unfolding Readable Ordered is_in_the_way
  readable top next wide Free o e = differ (sym e)
  readable top next wide (Held number held) o e =
      let n : number < 256 ^ 8 = omega (arith, below_next top next number held o.0) in
      let c : conflict held claim < 256 ^ 2 = omega (arith, conflict_less held claim, o.1.types) in
      (n, o.1.host, c)

spelled : (number host types : ℕ) → entry_in (entry_bytes number host types) ≡ record { number = number_from 0 (digits 8 number); host = number_from 0 (digits 2 host); types = number_from 0 (digits 2 types) }
unfolding entry_in entry_bytes digits number_at within
spelled number host types = refl

read_again : (number host types : ℕ) → number < 256 ^ 8 → host < 256 ^ 2 → types < 256 ^ 2
    → entry_in (entry_bytes number host types) ≡ record { number = number; host = host; types = types }
read_again number host types n h t =
    spelled number host types
    ∙ (λ k. record { number = digits_number 8 number n k; host = digits_number 2 host h k; types = digits_number 2 types t k })

entry_length : (number host types : ℕ) → length (entry_bytes number host types) ≡ 13
unfolding entry_bytes digits
entry_length number host types = refl

module _ (claim : Claim) (rest : List ℕ) where
  -- the entries that are read off a list are those of its slots
  read_all : (slots : List Slot) → Each (Readable claim) slots
      → entries_in (length slots) (joined (map (entry_for claim) slots) ++ rest) ≡ map (entry_of claim) slots
  unfolding Each Readable joined entries_in entry_for entry_of
  read_all [] e = refl
  read_all (Free ∷ slots) e = absurd e.0
  read_all (Held number held ∷ slots) e =
      let piece = entry_bytes number held.host (conflict held claim) in
      let others = joined (map (entry_for claim) slots) in
      let at : (piece ++ others) ++ rest ≡ piece ++ (others ++ rest) = append_assoc piece others rest in
      rw (at, take_at piece (others ++ rest) 13 (entry_length number held.host (conflict held claim)), drop_at piece (others ++ rest) 13 (entry_length number held.host (conflict held claim)))
      (ap₂ {C = List Entry} (λ (x : Entry) (xs : List Entry). x ∷ xs)
      (read_again number held.host (conflict held claim) e.0.0 e.0.1 e.0.2)
      (read_all slots e.1))

  pub read_list : (t : Table) → InOrder t → entries_in (length (in_the_way claim t)) (list_for claim t ++ rest) ≡ entries claim t.slots
  unfolding in_the_way list_for entries
  read_list t o =
      let ways = those (is_in_the_way claim) t.slots in
      read_all ways (each_both {R = Readable claim} (λ slot p q. readable claim (limit t) t.next o.wide slot p q) ways
      (those_each (Ordered (limit t) t.next) (is_in_the_way claim) t.slots o.slots) (those_pass (is_in_the_way claim) t.slots))
