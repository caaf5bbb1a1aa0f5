-- Two outcomes that meet a statement are equal. Assumes nothing.
use Rattle.std.specs.Prelude.{Option, None, Some, Result, Ok, Err}
use mathlib.Core.Path.{◌≡◌, refl, sym, ◌∙◌}
use mathlib.Core.Bool.{Bool}
use mathlib.Core.List.{List, [], ◌∷◌}
use Prim.Native.Nat.{ℕ}
use lib.ListN.{get_or}
use Rattle.words.specs.declared.realm.Realm.{Realm}
use Rattle.words.specs.Refusal.{refusal_number, refusal_value, values_in, refusal_says, says_by}
use Rattle.words.specs.declared.refusal.Refusal.{Refusal}
use Rattle.words.specs.declared.refusal.Refusal.TheVariants.{Faulty}
use Rattle.words.proofs.Refusals.{same_says}
use Rattle.records.specs.Reading.{Read, read_of, record_values, read_says, ReadsRecord}
use Rattle.records.specs.Standing.{TellsBodies, TellsOrder, TellsForbidden, TellsPowerless}
use Rattle.records.specs.declared.records.Record.{Record}

-- the record that has some values
unfoldable pub record_with : List ℕ → Record
record_with values = record {
  kind = get_or values 0 0;
  realm = record { hi = get_or values 1 0; lo = get_or values 2 0 };
  id = get_or values 3 0;
  rights = get_or values 4 0;
  size = get_or values 5 0;
}

-- the reading as a call's answer
at_start : Read → Result (Option Record) Refusal
at_start (Ok read) = Ok read
at_start (Err fault) = Err (Faulty fault 0)

values : Option Record → List ℕ
values None = []
values (Some r) = record_values r

back : List ℕ → Option Record
back [] = None
back (value ∷ more) = Some (record_with (value ∷ more))

inverse : (o : Option Record) → back (values o) ≡ o
unfolding back values record_values record_with
inverse None = refl
inverse (Some r) = refl

says : (r : Read) → says_by values (at_start r) ≡ read_says r
unfolding says_by refusal_says refusal_number refusal_value values_in read_says at_start values
says (Ok None) = refl
says (Ok (Some r)) = refl
says (Err fault) = refl

apart : (r r' : Read) → at_start r ≡ at_start r' → r ≡ r'
unfolding at_start
apart (Ok a) (Ok b) e = cc
apart (Ok a) (Err f) e = cc
apart (Err f) (Ok a) e = cc
apart (Err f) (Err g) e = cc

pub read_record_determined : (tail : List ℕ) (r r' : Read) → ReadsRecord tail r → ReadsRecord tail r' → r ≡ r'
read_record_determined tail r r' p q =
    apart r r' (same_says values back inverse (at_start r) (at_start r') (says r ∙ p.answer) (says r' ∙ q.answer))

-- so a reading is what the tail is read as
pub read_is : {tail : List ℕ} {r : Read} → ReadsRecord tail r → r ≡ read_of tail
read_is {tail = tail} {r = r} p = read_record_determined tail r (read_of tail) p (record { answer = refl })

pub bodies_in_order_determined : (earlier r : Record) (b b' : Bool) → TellsBodies earlier r b → TellsBodies earlier r b' → b ≡ b'
bodies_in_order_determined earlier r b b' p q = p.answer ∙ sym q.answer

pub in_order_determined : (earlier r : Record) (b b' : Bool) → TellsOrder earlier r b → TellsOrder earlier r b' → b ≡ b'
in_order_determined earlier r b b' p q = p.answer ∙ sym q.answer

pub is_forbidden_determined : (home : Realm) (r : Record) (b b' : Bool) → TellsForbidden home r b → TellsForbidden home r b' → b ≡ b'
is_forbidden_determined home r b b' p q = p.answer ∙ sym q.answer

pub lacks_control_determined : (r : Record) (b b' : Bool) → TellsPowerless r b → TellsPowerless r b' → b ≡ b'
lacks_control_determined r b b' p q = p.answer ∙ sym q.answer
