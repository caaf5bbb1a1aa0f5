use mathlib.Core.Path.{◌∙◌}
use native.Mathlib.Omega.{arith}
use Rattle.words.specs.Realm.{realm_bytes}
use Rattle.words.proofs.Digits.{fits}
use Rattle.words.proofs.Written.{realm_length}
use Rattle.writes.proofs.Stored.{has_room, has_none, stored_realm}
use Rattle.writes.proofs.realm.write_realm.Goals as goal

pub store_eight-requires : goal.store_eight-requires
store_eight-requires c = let h = fits _ _ _ c.holds.ensures.answer c.if-holds.true in omega arith

pub overflow_add-at : goal.overflow_add-at
overflow_add-at c = let h = fits _ _ _ c.holds.ensures.answer c.if-holds.true in omega arith

pub store_eight-requires-then-holds : goal.store_eight-requires-then-holds
store_eight-requires-then-holds c = let h = fits _ _ _ c.holds.ensures.answer c.if-holds.true in omega arith

pub returns-then-holds : goal.returns-then-holds
returns-then-holds c = let a = c.args in let h = fits _ _ _ c.holds.ensures.answer c.if-holds.true in record { bytes_after = rw (c.store_eight-then-holds.ensures, c.store_eight.ensures) (stored_realm a.bytes.now a.at a.realm h ∙ has_room a.at 16 (realm_bytes a.realm) a.bytes.now (realm_length a.realm) c.holds.ensures.answer c.if-holds.true) }

pub returns-else-holds : goal.returns-else-holds
returns-else-holds c = let a = c.args in record { bytes_after = has_none a.at 16 (realm_bytes a.realm) a.bytes.now (realm_length a.realm) c.holds.ensures.answer c.if-holds.false }
