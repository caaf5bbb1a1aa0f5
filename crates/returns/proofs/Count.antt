-- The count of a dropped host's slots is theirs, and none is left. Assumes nothing.
use Rattle.std.specs.Prelude.{if◌then◌else◌, Ok}
use Rattle.words.specs.Refusal.{says_by}
use mathlib.Core.Path.{◌≡◌, refl, sym, ap}
use mathlib.Core.Bool.{Bool, true, false}
use mathlib.Core.List.{List, [], ◌∷◌, map}
use Prim.Native.Nat.{ℕ}
use lib.Dec.{eqb}
use lib.ListN.{length, get_or}
use Rattle.words.specs.Test.{those}
use Rattle.words.specs.Said.{Said, done, refused}
use Rattle.words.proofs.Tests.{Each, those_none}
use Rattle.words.proofs.Left.{not_done}
use Rattle.table.specs.Layout.{table_of}
use Rattle.table.specs.Form.{well_formed}
use Rattle.table.specs.Call.{says_of}
use Rattle.table.specs.Table.{Table}
use Rattle.table.specs.declared.slot.Slot.{Slot}
use Rattle.table.specs.declared.slot.Slot.TheVariants.{Free, Held}
use Rattle.returns.specs.DropHost.{is_hosts, freed, drop_says, dropped, Drops}

first_value : Said → ℕ
first_value (done values) = get_or values 0 0
first_value (refused number values) = 0

-- the answer is how many slots were the host's
pub count_is : (bytes : List ℕ) (host n : ℕ) (after : List ℕ) → Drops bytes host (Ok n) after → n ≡ length (those (is_hosts host) (table_of bytes).slots)
unfolding says_by says_of drop_says first_value
count_is bytes host n after d = go (well_formed bytes) (eqb host 0) d.answer
  where
    go : (a b : Bool)
        → done (n ∷ []) ≡ (if a then (if b then refused 31 [] else done (length (those (is_hosts host) (table_of bytes).slots) ∷ [])) else refused 30 [])
        → n ≡ length (those (is_hosts host) (table_of bytes).slots)
    go true true e = absurd (not_done 31 [] (n ∷ []) (sym e))
    go true false e = ap first_value e
    go false b e = absurd (not_done 30 [] (n ∷ []) (sym e))

-- afterwards none is
freed_not : (host : ℕ) (slot : Slot) → is_hosts host (freed host slot) ≡ false
unfolding freed is_hosts
freed_not host Free = refl
freed_not host (Held number held) = go (eqb held.host host) refl
  where
    go : (b : Bool) → eqb held.host host ≡ b → is_hosts host (if b then Free else Held number held) ≡ false
    go true q = refl
    go false q = q

none_of : (host : ℕ) (slots : List Slot) → Each (λ slot. is_hosts host slot ≡ false) (map (freed host) slots)
unfolding Each
none_of host [] = tt
none_of host (s ∷ ss) = (freed_not host s, none_of host ss)

pub none_left : (host : ℕ) (t : Table) → those (is_hosts host) (dropped host t).slots ≡ []
unfolding dropped
none_left host t = those_none (is_hosts host) (map (freed host) t.slots) (none_of host t.slots)
