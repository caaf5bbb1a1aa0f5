-- Contracts of the crate's own functions: one slot changed, or all slots of a host.
use Rattle.std.specs.Prelude.{◌≡◌, Bool, Result, List, [], ℕ, length, get_or, if◌then◌else◌}
use Rattle.words.specs.Test.{those}
use Rattle.words.specs.Said.{Said, done, refused, left}
use Rattle.words.specs.Refusal.{plain_says}
use Rattle.words.specs.declared.refusal.Refusal.{Refusal}
use Rattle.words.specs.Number.{part}
use Rattle.words.specs.Writing.{over}
use Rattle.claims.specs.Types.{lacks}
use Rattle.claims.specs.declared.claim.Claim.{Claim}
use Rattle.table.specs.Table.{put}
use Rattle.table.specs.Layout.{width, slot_of, slot_bytes, table_of, bytes_of}
use Rattle.table.specs.declared.slot.Slot.{Slot}
use Rattle.table.specs.declared.slot.Slot.TheVariants.{Free, Held}
use Rattle.returns.specs.Return.{keeps, loses}
use Rattle.returns.specs.DropHost.{is_hosts, dropped}

-- a token that loses types: 37, or done
unfoldable pub loss_says : ℕ → ℕ → Said
loss_says held types = if lacks held types then refused 37 [] else done []

pub record LosesFrom (bytes : List ℕ) (at number : ℕ) (held : Claim) (types : ℕ) (r : Result (Unit {0}) Refusal) (after : List ℕ) : Type 0 where
  pub answer : plain_says r ≡ loss_says held.types types
  pub table_after : after ≡ (if lacks held.types types then bytes else over at (slot_bytes (keeps types number held)) bytes)

unfoldable pub slot_says : ℕ → Slot → Said
slot_says types Free = refused 36 []
slot_says types (Held number held) = loss_says held.types types

pub record Loses (bytes : List ℕ) (i types : ℕ) (r : Result (Unit {0}) Refusal) (after : List ℕ) : Type 0 where
  pub answer : plain_says r ≡ slot_says types (get_or (table_of bytes).slots i Free)
  pub table_after : after ≡ left (slot_says types (get_or (table_of bytes).slots i Free)) (bytes_of (put (table_of bytes) i (loses types (get_or (table_of bytes).slots i Free)))) bytes

-- one slot of the host's, or another
pub record Frees (bytes : List ℕ) (at host : ℕ) (r : Bool) (after : List ℕ) : Type 0 where
  pub answer : r ≡ is_hosts host (slot_of (part at width bytes))
  pub table_after : after ≡ (if is_hosts host (slot_of (part at width bytes)) then over at (slot_bytes Free) bytes else bytes)

pub record FreesAll (bytes : List ℕ) (host r : ℕ) (after : List ℕ) : Type 0 where
  pub count : r ≡ length (those (is_hosts host) (table_of bytes).slots)
  pub table_after : after ≡ bytes_of (dropped host (table_of bytes))
