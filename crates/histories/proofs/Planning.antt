-- Returns of what an ask lists, whole entries or split in any way, in any order and mixed: none of them is refused. Assumes nothing.
use Rattle.std.specs.Prelude.{Ok}
use mathlib.Core.Path.{◌≡◌, refl, sym, ◌∙◌, ap}
use mathlib.Core.Bool.{Bool, true, false, cond, not, ◌||◌, ◌&&◌}
use mathlib.Core.List.Memᴰ
use mathlib.Core.List.{List, [], ◌∷◌, map, Memᴰ}
use mathlib.Core.Logic.{◌≢◌, ◌⊎◌, inl, inr}
use Prim.Native.Nat.{ℕ, suc, ◌≤◌, ◌<◌}
use native.Mathlib.Omega.{arith}
use borrow.Author.Tests.{eqb-true, eq-eqb, ne_eqb, le-ltb, ltb-false, not-true}
use lib.Dec.{eqb, ltb}
use lib.ListN.{get_or}
use Rattle.words.specs.Test.{those, any_of}
use Rattle.words.specs.Said.{done}
use Rattle.words.specs.Bit.{bit}
use Rattle.words.proofs.Tests.{differ, fails, and_left, and_both, or_left, or_right}
use Rattle.claims.specs.Types.{kinds}
use Rattle.claims.specs.Claim.{unfit, malformed}
use Rattle.claims.specs.declared.claim.Claim.{Claim}
use Rattle.claims.proofs.Sets.{member, part_less}
use Rattle.claims.proofs.Fewer.{none_lacking}
use Rattle.table.specs.Table.{Table, limit, is_in_the_way}
use Rattle.table.specs.Form.{is_token}
use Rattle.words.specs.Refusal.{says_by}
use Rattle.words.proofs.Refusals.{same_plain}
use Rattle.table.specs.declared.slot.Slot.{Slot}
use Rattle.table.specs.declared.slot.Slot.TheVariants.{Free, Held}
use Rattle.table.proofs.Means.{Ordered, order_at}
use Rattle.returns.specs.Return.{is_of, types_in, place_in, token_in, return_says}
use Rattle.audit.specs.Audit.{apart}
use Rattle.audit.proofs.Exactly.{tokens_apart}
use Rattle.histories.specs.History.{Return}
use Rattle.histories.specs.Callback.{slot_at, Item, Holds, Entry, Listed, Turn, givens, Names, GivenBack, return_of, Reordered, NoneTwice, Split}
use Rattle.histories.proofs.Places.{any_at, there}
use Rattle.histories.proofs.Soundness.{Sound, free_harmless}
use Rattle.histories.proofs.Giving.{says, give, give_sound}
use Rattle.histories.proofs.Turns.{Answered, one_token, give_holds}
use Rattle.histories.proofs.Entries.{entry_of, entries, source}
use Rattle.histories.proofs.Serving.{listed_holds}
use Rattle.histories.proofs.Reorders.{Once, from_reordered, to_reordered, once_reordered}

-- a type that a return names
abbrev item : Return → ℕ → Item
item g i = record { number = g.number; host = g.host; type = i }

-- a return that names types, and all that it names is held
record Ready (t : Table) (g : Return) : Type 0 where
  pub some : g.types ≢ 0
  pub held : (i : ℕ) → bit i g.types ≡ true → (i < kinds) × Holds t (item g i)

free_not : (host number : ℕ) → is_of host number Free ≡ false
unfolding is_of
free_not host number = refl

-- some of a well-formed token's types are fit to be returned
fit_types : (top : ℕ) (held : Claim) (types : ℕ) → malformed held top ≡ false → types ≢ 0 → types ≤ held.types → unfit held.host types top ≡ false
unfolding malformed unfit
fit_types top held types shaped some less =
    let host = eqb held.host 0 in
    let none = eqb held.types 0 in
    let high = ltb top held.types in
    let fit = or_left (host || none || high) (ltb held.last held.first) shaped in
    let few = ltb-false top held.types (or_right (host || none) high fit) in
    rw (or_left host none (or_left (host || none) high fit), ne_eqb types 0 some, le-ltb top types (omega arith)) refl

shaped_in : (top next number : ℕ) (held : Claim) → Ordered top next (Held number held) → malformed held top ≡ false
unfolding Ordered is_token
shaped_in top next number held o =
    not-true (malformed held top) (and_left (not (malformed held top)) (ltb 0 number) (and_left (not (malformed held top) && ltb 0 number) (ltb number next) o.0))

-- a return that is ready is done
module _ (t : Table) (sound : Sound t) (g : Return) (r : Ready t g) where
  -- the token, by one of its types
  one : (i : ℕ) × (bit i g.types ≡ true)
  one = member g.types r.some

  token : Holds t (item g one.0)
  token = (r.held one.0 one.1).1

  all_held : (i : ℕ) → bit i g.types ≡ true → bit i token.claim.types ≡ true
  all_held i p =
      let h = (r.held i p).1 in
      rw (← one_token t sound h.place token.place g.number h.claim token.claim h.at token.at) h.type

  is_fit : unfit g.host g.types (limit t) ≡ false
  is_fit =
      let o : Ordered (limit t) t.next (Held g.number token.claim) = rw token.at at (order_at t sound.order token.place) in
      let less : g.types ≤ token.claim.types = part_less g.types token.claim.types all_held in
      rw token.host at (fit_types (limit t) token.claim g.types (shaped_in (limit t) t.next g.number token.claim o) r.some less)

  its_token : is_of g.host g.number (slot_at t token.place) ≡ true
  unfolding is_of
  its_token =
      rw token.at
      (and_both (eqb g.number g.number) (eqb token.claim.host g.host) (eq-eqb g.number g.number refl) (eq-eqb token.claim.host g.host token.host))

  found : any_of (is_of g.host g.number) t.slots ≡ true
  found = any_at (is_of g.host g.number) (free_not g.host g.number) t.slots token.place its_token

  -- the place where a return looks is the token's
  its_types : types_in (slot_at t (place_in g.host g.number g.types t)) ≡ token.claim.types
  unfolding types_in place_in is_of
  its_types = go (slot_at t k) refl (there (is_of g.host g.number) t.slots found)
    where
      k : ℕ
      k = place_in g.host g.number g.types t

      go : (slot : Slot) → slot_at t k ≡ slot → is_of g.host g.number slot ≡ true → types_in slot ≡ token.claim.types
      go Free p q = absurd (differ (sym q))
      go (Held number held) p q =
          let z : number ≡ g.number = eqb-true number g.number (and_left (eqb number g.number) (eqb held.host g.host) q) in
          ap (λ (c : Claim). c.types) (one_token t sound k token.place g.number held token.claim (rw z at p) token.at)

  ready_says : says g t ≡ done []
  unfolding return_says token_in
  ready_says = rw (is_fit, found, its_types, none_lacking token.claim.types g.types all_held) refl

-- a return leaves ready what names none of its types
ready_stays : (t : Table) (g h : Return) → says g t ≡ done [] → ((x : Item) → Names g x → Names h x → ⊥) → Ready t h → Ready (give g t) h
ready_stays t g h c apart r = record {
  some = r.some;
  held = λ i p.
      let w = r.held i p in (
        w.0,
        give_holds t g (item h i) w.0 w.1 [] c
            (λ n o. fails (bit i g.types) (λ q. apart (item h i) (record { number = n; host = o; type = q }) (record { number = refl; host = refl; type = p }))),
      );
}

-- returns that are ready and name nothing twice are done, one after the other
all_done : (turns : List Turn) (t : Table) → Sound t → ((g : Return) → Memᴰ g (givens turns) → Ready t g) → NoneTwice (givens turns)
    → Answered turns t → (turn : Turn) → Memᴰ turn turns → turn.reply ≡ Ok tt
unfolding Answered NoneTwice says_by
all_done [] t sound ready apart answers turn m = absurd (Memᴰ.not-nil m)
all_done (first ∷ turns) t sound ready apart answers turn m =
    go (Memᴰ.cases_cons m)
    (all_done turns (give first.given t) (give_sound first.given t sound)
    (λ h n. ready_stays t first.given h says_done (apart.0 h n) (ready h (Memᴰ.tail n))) apart.1 answers.1 turn)
  where
    says_done : says first.given t ≡ done []
    says_done = ready_says t sound first.given (ready first.given (Memᴰ.head refl))

    go : (turn ≡ first) ⊎ Memᴰ turn turns → (Memᴰ turn turns → turn.reply ≡ Ok tt) → turn.reply ≡ Ok tt
    go (inl p) rest = rw p (same_plain first.reply (Ok tt) (answers.0 ∙ says_done) refl)
    go (inr p) rest = rest p

module _ (claim : Claim) (t : Table) (sound : Sound t) (turns : List Turn) (split : Split (entries claim t.slots) (givens turns)) (answers : Answered turns t) where
  pub none_refused : (turn : Turn) → Memᴰ turn turns → turn.reply ≡ Ok tt
  none_refused =
      all_done turns t sound
      (λ g m. record {
        some = split.some g m;
        held = λ i p. listed_holds claim t (item g i) (split.listed g m (item g i) (record { number = refl; host = refl; type = p }));
      })
      split.none_twice answers

  pub all_given : (x : Item) → Listed (entries claim t.slots) x → GivenBack turns x
  all_given x l =
      let w = split.all x l in
      let o = Memᴰ.of_map (λ (turn : Turn). turn.given) turns w.1 in
      record { turn = o.0; member = o.1; done = none_refused o.0 o.1; names = rw o.2 w.2 }

-- an ask lists each number once
once_listed : (claim : Claim) (slots : List Slot) → ((i j : ℕ) → i ≢ j → apart (get_or slots i Free) (get_or slots j Free) ≡ true) → Once (entries claim slots)
unfolding entries entry_of those Once
once_listed claim [] h = tt
once_listed claim (slot ∷ slots) h = go slot (is_in_the_way claim slot) refl h (once_listed claim slots (λ i j d. h (suc i) (suc j) (λ e. d (omega arith))))
  where
    go : (slot : Slot) (b : Bool) → is_in_the_way claim slot ≡ b → ((i j : ℕ) → i ≢ j → apart (get_or (slot ∷ slots) i Free) (get_or (slot ∷ slots) j Free) ≡ true)
        → Once (entries claim slots) → Once (map (entry_of claim) (cond b (slot ∷ those (is_in_the_way claim) slots) (those (is_in_the_way claim) slots)))
    go slot false p h o = o
    go Free true p h o = absurd (differ (sym p ∙ free_harmless claim))
    go (Held number held) true p h o = (other, o)
      where
        other : (f : Entry) → Memᴰ f (entries claim slots) → f.number ≢ number
        other f m z =
            let s = source claim slots f m in
            let w : apart (Held number held) (get_or slots s.place Free) ≡ true = h 0 (suc s.place) (λ e. absurd (omega arith)) in
            (tokens_apart number s.number held s.held (rw s.at at w)).0 (sym z ∙ ap (λ (e : Entry). e.number) s.is)

-- one return for each of some entries names nothing twice
whole_apart : (es : List Entry) → Once es → NoneTwice (map return_of es)
unfolding Once NoneTwice
whole_apart [] once = tt
whole_apart (e ∷ es) once = (
  λ h m x p q. let o = Memᴰ.of_map return_of es m in once.0 o.0 o.1 (ap (λ (g : Return). g.number) o.2 ∙ q.number ∙ sym p.number),
  whole_apart es once.1,
)

-- one return for each entry of an ask's list, in any order, is a way to split it
module _ (claim : Claim) (t : Table) (sound : Sound t) (es : List Entry) (order : Reordered es (entries claim t.slots)) where
  whole_some : (g : Return) → Memᴰ g (map return_of es) → g.types ≢ 0
  unfolding entry_of
  whole_some g m =
      let o = Memᴰ.of_map return_of es m in
      let s = source claim t.slots o.0 (from_reordered es (entries claim t.slots) order o.0 o.1) in
      rw (← o.2, s.is) s.conflicts

  whole_listed : (g : Return) → Memᴰ g (map return_of es) → (x : Item) → Names g x → Listed (entries claim t.slots) x
  whole_listed g m x p =
      let o = Memᴰ.of_map return_of es m in
      let q : Names (return_of o.0) x = rw o.2 p in
      record { entry = o.0; member = from_reordered es (entries claim t.slots) order o.0 o.1; number = q.number; host = q.host; type = q.type }

  pub whole_split : Split (entries claim t.slots) (map return_of es)
  whole_split = record {
    some = whole_some;
    listed = whole_listed;
    none_twice = whole_apart es (once_reordered es (entries claim t.slots) order (once_listed claim t.slots sound.all.at));
    all = λ x l. (
      return_of l.entry,
      Memᴰ.map return_of (to_reordered es (entries claim t.slots) order l.entry l.member),
      record { number = l.number; host = l.host; type = l.type },
    );
  }
