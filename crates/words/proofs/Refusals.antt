-- A refusal is known by its number and its value, so what a call says leaves no choice of its answer. Assumes nothing.
use mathlib.Core.Path.{◌≡◌, refl, ap}
use mathlib.Core.List.{List, [], ◌∷◌}
use Prim.Native.Nat.{ℕ}
use lib.ListN.{get_or}
use Rattle.std.specs.Prelude.{Option, None, Some, Result, Ok, Err, IsErrAnd, unwrap_or}
use Rattle.words.specs.Said.{Said, done, refused}
use Rattle.words.specs.Refusal.{fault_of, refusal_of, number_of, refusal_number, refusal_value, values_in, refusal_says, says_by, plain_says, number_says}
use Rattle.words.specs.declared.refusal.Fault.TheVariants.{TooLong, NoDefaultRealm, UnknownKind, CutShort, RightsAbove63, OutOfOrder, ForbiddenRealm, ObjectMissing, MaskMissing, ControlMissing}
use Rattle.words.specs.declared.refusal.Refusal.{Refusal}
use Rattle.words.specs.declared.refusal.Refusal.TheVariants.{Faulty, NothingToDrop, OutputTooShort, ModeAbove511, TooManyGroups, RightMissing, NotWellFormed, Malformed, Conflict, NoFreeSlot, NumbersSpent, ListTooShort, NoSuchToken, TypeLacking, NoSuchPart}
use Rattle.words.proofs.Determined.{same_answer}

pub refusal_back : (r : Refusal) → refusal_of (refusal_number r) (get_or (values_in (refusal_value r)) 0 0) ≡ r
unfolding refusal_of fault_of refusal_number number_of refusal_value values_in
refusal_back (Faulty TooLong place) = refl
refusal_back (Faulty NoDefaultRealm place) = refl
refusal_back (Faulty UnknownKind place) = refl
refusal_back (Faulty CutShort place) = refl
refusal_back (Faulty RightsAbove63 place) = refl
refusal_back (Faulty OutOfOrder place) = refl
refusal_back (Faulty ForbiddenRealm place) = refl
refusal_back (Faulty ObjectMissing place) = refl
refusal_back (Faulty MaskMissing place) = refl
refusal_back (Faulty ControlMissing place) = refl
refusal_back NothingToDrop = refl
refusal_back OutputTooShort = refl
refusal_back ModeAbove511 = refl
refusal_back TooManyGroups = refl
refusal_back RightMissing = refl
refusal_back NotWellFormed = refl
refusal_back Malformed = refl
refusal_back Conflict = refl
refusal_back NoFreeSlot = refl
refusal_back NumbersSpent = refl
refusal_back (ListTooShort count) = refl
refusal_back NoSuchToken = refl
refusal_back TypeLacking = refl
refusal_back NoSuchPart = refl

-- an answer by its values, where they tell it
module _ {A : Type 0} (values : A → List ℕ) (back : List ℕ → A) (inverse : (a : A) → back (values a) ≡ a) where
  unfoldable unsaid : Said → Result A Refusal
  unsaid (done given) = Ok (back given)
  unsaid (refused number given) = Err (refusal_of number (get_or given 0 0))

  unsaid_said : (r : Result A Refusal) → unsaid (says_by values r) ≡ r
  unfolding unsaid says_by refusal_says
  unsaid_said (Ok a) = ap Ok (inverse a)
  unsaid_said (Err refusal) = ap Err (refusal_back refusal)

  pub same_says : {said : Said} (r r' : Result A Refusal) → says_by values r ≡ said → says_by values r' ≡ said → r ≡ r'
  same_says r r' p q = same_answer (says_by values) unsaid unsaid_said r r' p q

pub same_plain : {said : Said} (r r' : Result (Unit {0}) Refusal) → plain_says r ≡ said → plain_says r' ≡ said → r ≡ r'
same_plain = same_says (λ none. []) (λ given. tt) (λ none. refl)

pub same_number : {said : Said} (r r' : Result ℕ Refusal) → number_says r ≡ said → number_says r' ≡ said → r ≡ r'
same_number = same_says (λ number. number ∷ []) (λ given. get_or given 0 0) (λ number. refl)

-- what goes with a refusal, or 0
pub first_value : (value : Option ℕ) → unwrap_or value 0 ≡ get_or (values_in value) 0 0
unfolding values_in
first_value None = refl
first_value (Some value) = refl

-- a refusal that is handed on
pub handed_on : {A : Type 0} (r : Result A Refusal) (refusal : Refusal) → IsErrAnd r (λ given. given ≡ refusal) → r ≡ Err refusal
handed_on (Ok a) refusal h = absurd h
handed_on (Err given) refusal h = ap Err h
