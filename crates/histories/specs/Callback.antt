-- The words of demand 3: what a list that ask wrote names, what a table holds, what returns gave back.
use Rattle.std.specs.Prelude.{◌≡◌, true, ◌≢◌, ℕ, zero, suc, ◌^◌, get_or, take, drop, Ok}
use mathlib.Core.List.{List, [], ◌∷◌, ◌++◌, map, Memᴰ}
use Rattle.words.specs.Bit.{bit}
use Rattle.words.specs.Number.{number_at}
use Rattle.claims.specs.declared.claim.Claim.{Claim}
use Rattle.table.specs.Table.{Table}
use Rattle.table.specs.declared.slot.Slot.{Slot}
use Rattle.table.specs.declared.slot.Slot.TheVariants.{Free, Held}
use Rattle.returns.specs.Return.{Returns}
use Rattle.histories.specs.History.{Return, Done, RunsBy}

-- the slot at a place, free past the last
abbrev pub slot_at : Table → ℕ → Slot
slot_at t i = get_or t.slots i Free

-- one type of one token
pub record Item : Type 0 where
  pub number : ℕ
  pub host : ℕ
  pub type : ℕ

-- a slot's token has this number and host, and has the type
pub record Holds (t : Table) (x : Item) : Type 0 where
  pub place : ℕ
  pub claim : Claim
  pub at : slot_at t place ≡ Held x.number claim
  pub host : claim.host ≡ x.host
  pub type : bit x.type claim.types ≡ true

-- an entry of ask's list, read off its thirteen bytes: kind 3, number 8, host 2, types 2
pub record Entry : Type 0 where
  pub number : ℕ
  pub host : ℕ
  pub types : ℕ

unfoldable pub entry_in : List ℕ → Entry
entry_in bytes = record { number = number_at 8 1 bytes; host = number_at 2 9 bytes; types = number_at 2 11 bytes }

-- so many entries, one after the other
unfoldable pub entries_in : ℕ → List ℕ → List Entry
entries_in zero bytes = []
entries_in (suc n) bytes = entry_in (take 13 bytes) ∷ entries_in n (drop 13 bytes)

-- an entry of the list names the token, and the type
pub record Listed (list : List Entry) (x : Item) : Type 0 where
  pub entry : Entry
  pub member : Memᴰ entry list
  pub number : entry.number ≡ x.number
  pub host : entry.host ≡ x.host
  pub type : bit x.type entry.types ≡ true

-- a return call and its answer
pub record Turn : Type 0 where
  pub given : Return
  pub reply : Done

-- the returns themselves
abbrev pub givens : List Turn → List Return
givens = map (λ (turn : Turn). turn.given)

-- the table's bytes before and after a return that was answered so
abbrev pub TurnLeaves : Turn → List ℕ → List ℕ → Type 0
TurnLeaves turn before after = Returns before turn.given.host turn.given.number turn.given.types turn.reply after

-- returns one after the other and no other call between, refused or not
abbrev pub Returned : List Turn → List ℕ → List ℕ → Type 0
Returned = RunsBy TurnLeaves

-- a return names the type of the token
pub record Names (given : Return) (x : Item) : Type 0 where
  pub number : given.number ≡ x.number
  pub host : given.host ≡ x.host
  pub type : bit x.type given.types ≡ true

-- one of the returns named it, and was done
pub record GivenBack (turns : List Turn) (x : Item) : Type 0 where
  pub turn : Turn
  pub member : Memᴰ turn turns
  pub done : turn.reply ≡ Ok tt
  pub names : Names turn.given x

-- the return of all that an entry names
abbrev pub return_of : Entry → Return
return_of e = record { host = e.host; number = e.number; types = e.types }

-- the same entries in any order: the first of them stands somewhere in the list, and the rest are the others in any order
unfoldable pub Reordered : List Entry → List Entry → Type 0
Reordered [] list = list ≡ []
Reordered (e ∷ es) list = (front : List Entry) × (back : List Entry) × (list ≡ front ++ e ∷ back) × Reordered es (front ++ back)

-- no two of the returns name one type of one token
unfoldable pub NoneTwice : List Return → Type 0
NoneTwice [] = Unit {0}
NoneTwice (g ∷ gs) = ((h : Return) → Memᴰ h gs → (x : Item) → Names g x → Names h x → ⊥) × NoneTwice gs

-- the returns of what a list names, split in any way: each names some listed types of a listed token, and each listed type is named once; so
-- whole entries, single types or what is between, in any order and mixed
pub record Split (list : List Entry) (gs : List Return) : Type 0 where
  pub some : (g : Return) → Memᴰ g gs → g.types ≢ 0
  pub listed : (g : Return) → Memᴰ g gs → (x : Item) → Names g x → Listed list x
  pub none_twice : NoneTwice gs
  pub all : (x : Item) → Listed list x → (g : Return) × Memᴰ g gs × Names g x

-- the return of one type of a token
abbrev pub return_one : Item → Return
return_one x = record { host = x.host; number = x.number; types = 2 ^ x.type }

-- no type of a token stands twice
unfoldable pub NoRepeat : List Item → Type 0
NoRepeat [] = Unit {0}
NoRepeat (x ∷ xs) = (Memᴰ x xs → ⊥) × NoRepeat xs

-- what a list names, type by type, in any order and mixed
pub record Singly (list : List Entry) (xs : List Item) : Type 0 where
  pub listed : (x : Item) → Memᴰ x xs → Listed list x
  pub all : (x : Item) → Listed list x → Memᴰ x xs
  pub once : NoRepeat xs
