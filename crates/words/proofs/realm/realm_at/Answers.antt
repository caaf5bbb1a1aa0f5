use native.Mathlib.Omega.{arith}
use Rattle.words.specs.Realm.{realm_at, zero_realm}
use Rattle.words.proofs.Digits.{fits}
use Rattle.words.proofs.realm.realm_at.Goals as goal

pub eight-requires : goal.eight-requires
unfolding realm_at zero_realm
eight-requires c = let h = fits _ _ _ c.holds.ensures.answer c.if-holds.true in omega arith

pub overflow_add-at : goal.overflow_add-at
unfolding realm_at zero_realm
overflow_add-at c = let h = fits _ _ _ c.holds.ensures.answer c.if-holds.true in omega arith

pub eight-requires-then-holds : goal.eight-requires-then-holds
unfolding realm_at zero_realm
eight-requires-then-holds c = let h = fits _ _ _ c.holds.ensures.answer c.if-holds.true in omega arith

pub returns-then-holds : goal.returns-then-holds
unfolding realm_at zero_realm
returns-then-holds c = record { answer = simp (← c.holds.ensures.answer, c.if-holds.true, c.eight.ensures, c.eight-then-holds.ensures) }

pub returns-else-holds : goal.returns-else-holds
unfolding realm_at zero_realm
returns-else-holds c = record { answer = simp (← c.holds.ensures.answer, c.if-holds.false) }
