-- A return and a drop leave a table in order; so after them the bytes are well formed, or as they were. Assumes nothing.
use Rattle.std.specs.Prelude.{if◌then◌else◌, Result}
use mathlib.Core.Path.{◌≡◌, refl}
use mathlib.Core.Bool.{Bool, true, false, not, ◌||◌, ◌&&◌}
use mathlib.Core.List.{List}
use mathlib.Core.Logic.{◌⊎◌}
use Prim.Native.Nat.{ℕ, ◌^◌, ◌≤◌, ◌<◌}
use native.Mathlib.Omega.{arith}
use borrow.Author.Tests.{eqb-false, ne_eqb, le-ltb, ltb-false, not-true}
use lib.Dec.{eqb, ltb}
use lib.ListN.{length, length-set, length-map}
use Rattle.words.specs.Number.{Bytes}
use Rattle.words.proofs.Tests.{and_left, and_right, and_both, or_left, or_right}
use Rattle.claims.specs.Types.{without}
use Rattle.claims.specs.Claim.{with_types, unfit, malformed}
use Rattle.claims.specs.declared.claim.Claim.{Claim}
use Rattle.claims.proofs.Fewer.{without_less}
use Rattle.table.specs.Table.{Table, limit}
use Rattle.table.specs.Form.{is_token, well_formed}
use Rattle.words.specs.declared.refusal.Refusal.{Refusal}
use Rattle.table.specs.declared.slot.Slot.{Slot}
use Rattle.table.specs.declared.slot.Slot.TheVariants.{Free, Held}
use Rattle.table.proofs.Means.{Ordered, InOrder, order_at}
use Rattle.table.proofs.Ordering.{put_order, map_order, left_formed}
use Rattle.returns.specs.Return.{keeps, loses, place_in, token_in, return_says, returned, Returns}
use Rattle.returns.specs.DropHost.{is_hosts, freed, drop_says, dropped, Drops}

free_ordered : (top next : ℕ) → Ordered top next Free
unfolding Ordered
free_ordered top next = tt

held_ordered : (top next number : ℕ) (held : Claim) (kept : ℕ) → (kept ≡ 0 → ⊥) → kept ≤ held.types → Ordered top next (Held number held)
    → Ordered top next (Held number (with_types held kept))
unfolding Ordered is_token malformed unfit
held_ordered top next number held kept some less o =
    let numbered = ltb 0 number in
    let early = ltb number next in
    let host = eqb held.host 0 in
    let none = eqb held.types 0 in
    let high = ltb top held.types in
    let back = ltb held.last held.first in
    let front = and_left (not (host || none || high || back) && numbered) early o.0 in
    let shape = not-true (host || none || high || back) (and_left (not (host || none || high || back)) numbered front) in
    let fit = or_left (host || none || high) back shape in
    let few = ltb-false top held.types (or_right (host || none) high fit) in
    let shape' : (host || eqb kept 0 || ltb top kept || back) ≡ false =
    rw (or_left host none (or_left (host || none) high fit), ne_eqb kept 0 some, le-ltb top kept (omega arith), or_right (host || none || high) back shape) refl in
    let types : kept < 256 ^ 2 = omega (arith, o.1.types) in (
      and_both (not (host || eqb kept 0 || ltb top kept || back) && numbered) early
          (and_both (not (host || eqb kept 0 || ltb top kept || back)) numbered (rw shape' refl) (and_right (not (host || none || high || back)) numbered front))
          (and_right (not (host || none || high || back) && numbered) early o.0),
      record { types = types; host = o.1.host; hi = o.1.hi; lo = o.1.lo; first = o.1.first; last = o.1.last },
    )

-- a token in order without some of its types
fewer : (top next number : ℕ) (held : Claim) (types : ℕ) → Ordered top next (Held number held) → Ordered top next (keeps types number held)
unfolding keeps
fewer top next number held types o = go (eqb (without held.types types) 0) refl
  where
    go : (b : Bool) → eqb (without held.types types) 0 ≡ b → Ordered top next (if b then Free else Held number (with_types held (without held.types types)))
    go true q = free_ordered top next
    go false q = held_ordered top next number held (without held.types types) (eqb-false (without held.types types) 0 q) (without_less held.types types) o

loses_ordered : (top next types : ℕ) (slot : Slot) → Ordered top next slot → Ordered top next (loses types slot)
unfolding loses
loses_ordered top next types Free o = free_ordered top next
loses_ordered top next types (Held number held) o = fewer top next number held types o

there : (host number types : ℕ) (t : Table) → InOrder t → Ordered (limit t) t.next (token_in host number types t)
unfolding token_in
there host number types t o = order_at t o (place_in host number types t)

freed_ordered : (top next host : ℕ) (slot : Slot) → Ordered top next slot → Ordered top next (freed host slot)
unfolding freed
freed_ordered top next host slot o = go (is_hosts host slot)
  where
    go : (b : Bool) → Ordered top next (if b then Free else slot)
    go true = free_ordered top next
    go false = o

module _ (t : Table) (o : InOrder t) where
  pub return_order : (host number types : ℕ) → InOrder (returned host number types t) × (length (returned host number types t).slots ≡ length t.slots)
  unfolding returned
  return_order host number types = (
    put_order t o (place_in host number types t) (loses types (token_in host number types t)) (loses_ordered (limit t) t.next types (token_in host number types t) (there host number types t o)),
    length-set t.slots _ _,
  )

  pub drop_order : (host : ℕ) → InOrder (dropped host t) × (length (dropped host t).slots ≡ length t.slots)
  unfolding dropped
  drop_order host = (map_order t o (freed host) (freed_ordered (limit t) t.next host), length-map t.slots (freed host))

pub return_formed : {bytes : List ℕ} {host number types : ℕ} {r : Result (Unit {0}) Refusal} {after : List ℕ} → Bytes bytes → Returns bytes host number types r after
    → (well_formed after ≡ true) ⊎ (after ≡ bytes)
return_formed {bytes} {host} {number} {types} all g =
    left_formed (return_says host number types) (returned host number types) bytes all (λ t o values e. return_order t o host number types) g.table_after

pub drop_formed : {bytes : List ℕ} {host : ℕ} {r : Result ℕ Refusal} {after : List ℕ} → Bytes bytes → Drops bytes host r after → (well_formed after ≡ true) ⊎ (after ≡ bytes)
drop_formed {bytes} {host} all g = left_formed (drop_says host) (dropped host) bytes all (λ t o values e. drop_order t o host) g.table_after
