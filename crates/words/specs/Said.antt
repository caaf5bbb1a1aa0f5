-- What any call says.
use Rattle.std.specs.Prelude.{Bool, true, false, List, ◌++◌, ℕ, length, drop}

-- done, with the values that it answers; or refused, with 01's number and the values that go with it: the place for 10 to 19, the
-- true count for 35
pub data Said : Type 0 where
  done : List ℕ → Said
  refused : ℕ → List ℕ → Said

unfoldable pub is_done : Said → Bool
is_done (done values) = true
is_done (refused number values) = false

-- the first of two that refuses
unfoldable pub and_then : Said → Said → Said
and_then (done values) next = next
and_then (refused number values) next = refused number values

-- a lent buffer after a call that says so: the new bytes, and past them its own; on refusal as it was
unfoldable pub left : Said → List ℕ → List ℕ → List ℕ
left (done values) new old = new ++ drop (length new) old
left (refused number values) new old = old
