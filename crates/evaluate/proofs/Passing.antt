-- A pass over a list makes its check, and finds what the steps decide. Assumes nothing.
use mathlib.Core.Path.{◌≡◌, refl, sym, ◌∙◌, ap, subst}
use mathlib.Core.List.{List, [], ◌∷◌, foldl}
use mathlib.Core.Bool.{Bool, and-false}
use Prim.Native.Nat.{ℕ, ◌<◌}
use Rattle.words.specs.Test.{those}
use Rattle.std.specs.Prelude.{Result, Ok, Err}
use Rattle.words.specs.Said.{done}
use Rattle.words.specs.Refusal.{refusal_says, says_by}
use Rattle.words.specs.declared.refusal.Refusal.{Refusal}
use Rattle.words.specs.Realm.{realm_at}
use Rattle.words.proofs.Tests.{Each}
use Rattle.list.specs.Fault.{no_record}
use Rattle.list.specs.Checking.{Placed, placed, records, check_says}
use Rattle.records.specs.declared.records.Record.{Record}
use Rattle.evaluate.specs.Asking.{of_default_realm}
use Rattle.evaluate.specs.Steps.{Step, masked, unmasked, here, abroad, steps, serving, served_from, served, union, is_mask, masking, first}
use Rattle.evaluate.specs.Evaluation.{unless_refused, by_step, served_in, list_gives, evaluated_as, Checks}
use Rattle.evaluate.specs.Tally.{no_tally, tallying, allowed, tally_in, Passes}
use Rattle.evaluate.specs.declared.asking.Caller.{Caller}
use Rattle.evaluate.specs.declared.asking.File.{File}
use Rattle.evaluate.specs.declared.tally.Tally.{Tally}
use Rattle.evaluate.proofs.Counting.{as_tally, Untaken, tally_of, all_counted}
use Rattle.evaluate.proofs.Masking.{all_allowed}

module _ (home : Bool) (groups : List ℕ) (caller : Caller) (file : File) where
  abbrev ts : List Step
  ts = steps home groups caller file

  mask_untaken : (r : Record) → r.kind ≡ 5 → Untaken ts r
  unfolding Each steps here abroad masked unmasked
  mask_untaken r k = (simp (k, and-false), (simp (k, and-false), (simp (k, and-false), (simp (k, and-false), (simp (k, and-false), (simp k, tt))))))

  none_yet : no_tally ≡ tally_of ts []
  unfolding no_tally tally_of as_tally steps served_from serving those union masking is_mask first placed no_record
  none_yet = refl

  counted_all : (rs : List Placed) → foldl (tallying ts) no_tally rs ≡ as_tally (masking rs 255) (served ts rs)
  unfolding tally_of
  counted_all rs = rw none_yet (all_counted ts mask_untaken [] rs)

  -- what the tally of some records comes to is what the steps decide
  decides : (rs : List Placed) (t : Tally) → t ≡ foldl (tallying ts) no_tally rs → t.rights < 256
      → record { says = done (allowed t ∷ []); start = t.start; size = t.size } ≡ by_step (served ts rs) rs
  unfolding by_step as_tally
  decides rs t q h =
      let e = q ∙ counted_all rs in
      let u : union (served ts rs).by < 256 = subst (λ (x : Tally). x.rights < 256) e h in
      let p = first (served ts rs).by in
      rw e (ap (λ (x : ℕ). record { says = done (x ∷ []); start = p.at; size = p.it.size }) (all_allowed rs home groups caller file u))

-- a list does not look at whether a file is a directory
pub dir_unasked : (list groups : List ℕ) (caller : Caller) (file : File) (dir : Bool)
    → list_gives list groups caller (record { owner = file.owner; group = file.group; dir = dir }) ≡ list_gives list groups caller file
unfolding list_gives served_in steps here abroad
dir_unasked list groups caller file dir = refl

module _ {l groups : List ℕ} {caller : Caller} {file : File} where
  -- how a pass ends
  pub ends_refused : {refusal : Refusal} → check_says l ≡ refusal_says refusal → Passes l groups caller file (Err refusal)
  unfolding says_by
  ends_refused q = record { check = sym q; tally = λ t e. cc }

  pub ends_fine : {t : Tally} (home : Bool) → home ≡ of_default_realm caller (realm_at 1 l) → check_says l ≡ done []
      → t ≡ foldl (tallying (steps home groups caller file)) no_tally (records l) → Passes l groups caller file (Ok t)
  unfolding says_by tally_in
  ends_fine {t = t} home h q e = record { check = sym q; tally = λ u p. let i : t ≡ u = cc in rw (← h) (sym i ∙ e) }

  -- what follows from a pass
  module _ {r : Result Tally Refusal} (passes : Passes l groups caller file r) where
    refuses : {refusal : Refusal} → r ≡ Err refusal → check_says l ≡ refusal_says refusal
    unfolding says_by
    refuses q = sym passes.check ∙ rw q refl

    fine : {t : Tally} → r ≡ Ok t → check_says l ≡ done []
    unfolding says_by
    fine q = sym passes.check ∙ rw q refl

    pub checked_refused : {refusal : Refusal} → r ≡ Err refusal → Checks l (Err refusal)
    unfolding says_by
    checked_refused q = record { answer = sym (refuses q) }

    pub checked_fine : {t : Tally} → r ≡ Ok t → Checks l (Ok tt)
    unfolding says_by
    checked_fine q = record { answer = sym (fine q) }

    pub evaluated_refused : {refusal : Refusal} → r ≡ Err refusal → evaluated_as (Err refusal) ≡ list_gives l groups caller file
    unfolding evaluated_as list_gives unless_refused refusal_says
    evaluated_refused q = rw (refuses q)

    pub evaluated_fine : {t : Tally} {rights : ℕ} → r ≡ Ok t → rights ≡ allowed t → t.rights < 256
        → evaluated_as (Ok (record { rights = rights; start = t.start; size = t.size })) ≡ list_gives l groups caller file
    unfolding evaluated_as list_gives unless_refused served_in tally_in
    evaluated_fine {t = t} q a h = rw (fine q, a) (decides (of_default_realm caller (realm_at 1 l)) groups caller file (records l) t (passes.tally t q) h)
