-- 01's table of refusals.
use Rattle.std.specs.Prelude.{◌≡◌, List, [], ◌∷◌, ℕ, eqb, ltb, if◌then◌else◌, Option, None, Some, Result, Ok, Err}
use Rattle.words.specs.Said.{Said, done, refused}
use Rattle.words.specs.declared.refusal.Fault.{Fault}
use Rattle.words.specs.declared.refusal.Fault.TheVariants.{TooLong, NoDefaultRealm, UnknownKind, CutShort, RightsAbove63, OutOfOrder, ForbiddenRealm, ObjectMissing, MaskMissing, ControlMissing}
use Rattle.words.specs.declared.refusal.Refusal.{Refusal}
use Rattle.words.specs.declared.refusal.Refusal.TheVariants.{Faulty, NothingToDrop, OutputTooShort, ModeAbove511, TooManyGroups, RightMissing, NotWellFormed, Malformed, Conflict, NoFreeSlot, NumbersSpent, ListTooShort, NoSuchToken, TypeLacking, NoSuchPart}

-- a list's own
unfoldable pub number_of : Fault → ℕ
number_of TooLong = 10
number_of NoDefaultRealm = 11
number_of UnknownKind = 12
number_of CutShort = 13
number_of RightsAbove63 = 14
number_of OutOfOrder = 15
number_of ForbiddenRealm = 16
number_of ObjectMissing = 17
number_of MaskMissing = 18
number_of ControlMissing = 19

-- all of them
unfoldable pub refusal_number : Refusal → ℕ
refusal_number (Faulty fault place) = number_of fault
refusal_number NothingToDrop = 20
refusal_number OutputTooShort = 21
refusal_number ModeAbove511 = 22
refusal_number TooManyGroups = 23
refusal_number RightMissing = 24
refusal_number NotWellFormed = 30
refusal_number Malformed = 31
refusal_number Conflict = 32
refusal_number NoFreeSlot = 33
refusal_number NumbersSpent = 34
refusal_number (ListTooShort count) = 35
refusal_number NoSuchToken = 36
refusal_number TypeLacking = 37
refusal_number NoSuchPart = 38

-- what goes with a refusal: the place for 10 to 19, the true count for 35
unfoldable pub refusal_value : Refusal → Option ℕ
refusal_value (Faulty fault place) = Some place
refusal_value NothingToDrop = None
refusal_value OutputTooShort = None
refusal_value ModeAbove511 = None
refusal_value TooManyGroups = None
refusal_value RightMissing = None
refusal_value NotWellFormed = None
refusal_value Malformed = None
refusal_value Conflict = None
refusal_value NoFreeSlot = None
refusal_value NumbersSpent = None
refusal_value (ListTooShort count) = Some count
refusal_value NoSuchToken = None
refusal_value TypeLacking = None
refusal_value NoSuchPart = None

unfoldable pub values_in : Option ℕ → List ℕ
values_in None = []
values_in (Some value) = value ∷ []

unfoldable pub refusal_says : Refusal → Said
refusal_says refusal = refused (refusal_number refusal) (values_in (refusal_value refusal))

-- the fault of a number
unfoldable pub fault_of : ℕ → Fault
fault_of n =
    if eqb n 10 then TooLong else
    if eqb n 11 then NoDefaultRealm else
    if eqb n 12 then UnknownKind else
    if eqb n 13 then CutShort else
    if eqb n 14 then RightsAbove63 else
    if eqb n 15 then OutOfOrder else
    if eqb n 16 then ForbiddenRealm else
    if eqb n 17 then ObjectMissing else
    if eqb n 18 then MaskMissing else
    ControlMissing

-- the refusal of a number and its value
unfoldable pub refusal_of : ℕ → ℕ → Refusal
refusal_of n value =
    if ltb n 20 then Faulty (fault_of n) value else
    if eqb n 20 then NothingToDrop else
    if eqb n 21 then OutputTooShort else
    if eqb n 22 then ModeAbove511 else
    if eqb n 23 then TooManyGroups else
    if eqb n 24 then RightMissing else
    if eqb n 30 then NotWellFormed else
    if eqb n 31 then Malformed else
    if eqb n 32 then Conflict else
    if eqb n 33 then NoFreeSlot else
    if eqb n 34 then NumbersSpent else
    if eqb n 35 then ListTooShort value else
    if eqb n 36 then NoSuchToken else
    if eqb n 37 then TypeLacking else
    NoSuchPart

-- done, with the values of what is answered; or the refusal
module _ {A : Type 0} where
  unfoldable pub says_by : (A → List ℕ) → Result A Refusal → Said
  says_by values (Ok answer) = done (values answer)
  says_by values (Err refusal) = refusal_says refusal

-- of a call that answers nothing more, and of one that answers a number
abbrev pub plain_says : Result (Unit {0}) Refusal → Said
plain_says = says_by (λ none. [])

abbrev pub number_says : Result ℕ Refusal → Said
number_says = says_by (λ number. number ∷ [])

-- the refusal of a list's fault at a place
pub record Places (fault : Fault) (place : ℕ) (r : Refusal) : Type 0 where
  pub answer : r ≡ Faulty fault place

-- telling a refusal's number
pub record TellsNumber (refusal : Refusal) (r : ℕ) : Type 0 where
  pub answer : r ≡ refusal_number refusal

-- telling what goes with a refusal
pub record TellsValue (refusal : Refusal) (r : Option ℕ) : Type 0 where
  pub answer : r ≡ refusal_value refusal
