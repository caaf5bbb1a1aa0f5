-- Two callers who agree in what the steps look at get the same answer: user, which groups they are in, and the realm, where not both are
-- of the default realm. Assumes nothing.
use mathlib.Core.Path.{◌≡◌, refl}
use mathlib.Core.List.{List, [], ◌∷◌}
use mathlib.Core.Bool.{Bool, true}
use mathlib.Core.Logic.{◌⊎◌, inl, inr}
use Prim.Native.Nat.{ℕ, suc}
use lib.Dec.{ltb}
use lib.ListN.{length}
use Rattle.words.specs.Test.{those}
use Rattle.words.specs.Realm.{realm_at}
use Rattle.words.specs.declared.realm.Realm.{Realm}
use Rattle.list.specs.Checking.{Placed, records}
use Rattle.records.specs.declared.records.Record.{Record}
use Rattle.evaluate.specs.Asking.{of_default_realm, in_group}
use Rattle.evaluate.specs.Steps.{Step, masked, unmasked, here, abroad, steps, serving, served_from}
use Rattle.evaluate.specs.Evaluation.{unless_too_many, served_in, list_gives, evaluation}
use Rattle.evaluate.specs.declared.asking.Caller.{Caller}
use Rattle.evaluate.specs.declared.asking.File.{File}

those_same : (f g : Placed → Bool) (rs : List Placed) → ((p : Placed) → f p ≡ g p) → those f rs ≡ those g rs
unfolding those
those_same f g [] same = refl
those_same f g (r ∷ rs) same = rw (same r, those_same f g rs same)

-- steps that take the same records, and are masked alike
Same : List Step → List Step → Type 0
Same [] [] = Unit {0}
Same [] (u ∷ us) = ⊥
Same (t ∷ ts) [] = ⊥
Same (t ∷ ts) (u ∷ us) = ((r : Record) → t.takes r ≡ u.takes r) × ((t.is_masked ≡ u.is_masked) × Same ts us)

served_same : (n : ℕ) (ts us : List Step) (rs : List Placed) → Same ts us → served_from n ts rs ≡ served_from n us rs
unfolding Same served_from serving
served_same n [] [] rs same = refl
served_same n [] (u ∷ us) rs same = absurd same
served_same n (t ∷ ts) [] rs same = absurd same
served_same n (t ∷ ts) (u ∷ us) rs same =
    rw (those_same (λ (p : Placed). t.takes p.it) (λ (p : Placed). u.takes p.it) rs (λ (p : Placed). same.0 p.it), served_same (suc n) ts us rs same.1.1)
    (go (those (λ p. u.takes p.it) rs))
  where
    go : (ps : List Placed) → serving n t ps (served_from (suc n) us rs) ≡ serving n u ps (served_from (suc n) us rs)
    go [] = refl
    go (p ∷ ps) = rw same.1.0

-- both of the default realm, or of one realm
unfoldable pub OneRealm : Realm → Caller → Caller → Type 0
OneRealm default a b = ((of_default_realm a default ≡ true) × (of_default_realm b default ≡ true)) ⊎ (a.realm ≡ b.realm)

of_one_realm : (a b : Caller) (default : Realm) → a.realm ≡ b.realm → of_default_realm a default ≡ of_default_realm b default
unfolding of_default_realm
of_one_realm a b default realm = rw realm refl

module _ (caller caller' : Caller) (groups groups' : List ℕ) (user : caller.user ≡ caller'.user)
    (same : (id : ℕ) → in_group caller groups id ≡ in_group caller' groups' id) (file : File) where
  -- as the steps look at it: either is of the default realm, or both are of one
  same_abroad : (home : Bool) → (home ≡ true) ⊎ (caller.realm ≡ caller'.realm) → (kind : ℕ) (r : Record)
      → abroad home groups caller file kind r ≡ abroad home groups' caller' file kind r
  unfolding abroad
  same_abroad home (inl h) kind r = rw h refl
  same_abroad home (inr realm) kind r = rw realm refl

  steps_same : (home : Bool) → (home ≡ true) ⊎ (caller.realm ≡ caller'.realm) → Same (steps home groups caller file) (steps home groups' caller' file)
  unfolding Same steps here masked unmasked
  steps_same home one = (
    (λ r. rw user),
    (
      refl,
      (
        (λ r. rw (same_abroad home one 9 r, user)),
        (
          refl,
          (
            (λ r. rw (same_abroad home one 10 r, same file.group, same r.id)),
            (refl, ((λ r. refl), (refl, (same_abroad home one 11, (refl, ((λ r. refl), (refl, tt))))))),
          ),
        ),
      ),
    ),
  )

  served_alike : (list : List ℕ) → OneRealm (realm_at 1 list) caller caller' → served_in list groups caller file ≡ served_in list groups' caller' file
  unfolding OneRealm served_in
  served_alike list (inl h) = rw (h.0, h.1) (served_same 1 _ _ (records list) (steps_same true (inl refl)))
  served_alike list (inr realm) =
      rw (of_one_realm caller caller' (realm_at 1 list) realm)
      (served_same 1 _ _ (records list) (steps_same (of_default_realm caller' (realm_at 1 list)) (inr realm)))

  pub gives_alike : (list : List ℕ) → OneRealm (realm_at 1 list) caller caller' → list_gives list groups caller file ≡ list_gives list groups' caller' file
  unfolding list_gives
  gives_alike list one = rw (served_alike list one)

  -- where both have more than 32 groups, or neither
  pub alike : (list : List ℕ) → OneRealm (realm_at 1 list) caller caller' → ltb 32 (length groups) ≡ ltb 32 (length groups')
      → evaluation list groups caller file ≡ evaluation list groups' caller' file
  unfolding evaluation unless_too_many
  alike list one q = rw (q, gives_alike list one)
