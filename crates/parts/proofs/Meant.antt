-- What stays is what was held less what is named, byte by byte; so each claim that stays claims no more. Assumes nothing.
use mathlib.Core.Path.{◌≡◌, refl, sym, ◌∙◌}
use mathlib.Core.Bool.{Bool, true, false, ◌||◌, ◌&&◌}
use mathlib.Core.List.{[], Memᴰ}
use mathlib.Core.Logic.{◌⊎◌, inl, inr, ◌≢◌, ◌↔◌}
use Prim.Native.Nat.{ℕ, ◌+◌, ◌-◌, ◌≤◌, ◌<◌}
use native.Mathlib.Nat.{le_refl}
use native.Mathlib.Omega.{arith}
use borrow.Author.Tests.{eqb-false, ne_eqb, ltb-true, ltb-false, le-ltb}
use lib.Dec.{eqb, ltb}
use Rattle.words.specs.Bit.{bit}
use Rattle.words.proofs.Tests.{differ, and_both, or_left, or_right}
use Rattle.claims.specs.Types.{kinds, without}
use Rattle.claims.specs.Claim.{with_types, with_range, unfit, malformed}
use Rattle.claims.specs.Rule.{covers_file, some_cover}
use Rattle.claims.specs.declared.claim.Claim.{Claim}
use Rattle.claims.proofs.Sets.{some_at, nonempty, part_less}
use Rattle.claims.proofs.Fewer.{in_without, without_in}
use Rattle.claims.proofs.Within.{Within}
use Rattle.claims.proofs.Ranges.{in_order as in-order-of}
use Rattle.parts.specs.Part.{is_whole, kept}
use Rattle.parts.specs.Meaning.{On, Claims, SomeClaims, LessNamed}
use Rattle.parts.proofs.Staying.{Part, Allowed, whole, part, allowed, whole_range, each_kept, fewer_stays, before_stays, after_stays}

-- a claim that is not malformed has a type
some_types : (claim : Claim) (top : ℕ) → malformed claim top ≡ false → claim.types ≢ 0
unfolding malformed unfit
some_types claim top e =
    let host = eqb claim.host 0 in
    let none = eqb claim.types 0 in
    let high = ltb top claim.types in
    eqb-false claim.types 0 (or_right host none (or_left (host || none) high (or_left (host || none || high) (ltb claim.last claim.first) e)))

-- one that claims no more, and something, is not malformed either
shaped_within : (a b : Claim) (top : ℕ) → Within a b → a.types ≢ 0 → a.first ≤ a.last → malformed b top ≡ false → malformed a top ≡ false
unfolding malformed unfit
shaped_within a b top w some ordered e =
    let host = eqb b.host 0 in
    let none = eqb b.types 0 in
    let high = ltb top b.types in
    let fit = or_left (host || none || high) (ltb b.last b.first) e in
    let few = ltb-false top b.types (or_right (host || none) high fit) in
    let less = part_less a.types b.types w.types in
    rw (w.host, or_left host none (or_left (host || none) high fit), ne_eqb a.types 0 some, le-ltb top a.types (omega arith), le-ltb a.last a.first ordered) refl

none_covers : (types type : ℕ) → some_cover types ≡ false → type < kinds → bit type types ≡ true → covers_file type ≡ true → ⊥
unfolding some_cover
none_covers types type none h e c = differ (sym (some_at kinds (λ i. bit i types && covers_file i) type h (and_both (bit type types) (covers_file type) e c)) ∙ none)

module _ (types first last : ℕ) (held : Claim) (in_order : first ≤ last) where
  -- a part's bytes are those of its range
  module _ (p : Part types first last held) (type byte : ℕ) (h : type < kinds) where
    pub by_byte : {from to : ℕ} → On held.types from to type byte → (from ≤ byte) × (byte ≤ to)
    by_byte o = go o.there
      where
        go : {from to : ℕ} → (covers_file type ≡ true) ⊎ ((from ≤ byte) × (byte ≤ to)) → (from ≤ byte) × (byte ≤ to)
        go (inl c) = absurd (none_covers types type p.by_bytes h (rw p.all_types o.among) c)
        go (inr r) = r

    named_byte : On types first last type byte → (first ≤ byte) × (byte ≤ last)
    named_byte o = by_byte (record { among = rw p.all_types at o.among; there = o.there })

  -- it is held, and not named
  abbrev Rest : ℕ → ℕ → Type 0
  Rest type byte = Claims held type byte × ¬ On types first last type byte

  module _ (a : Allowed types first last held) (type byte : ℕ) (h : type < kinds) where
    rest_of : SomeClaims (kept types first last held) type byte → Rest type byte
    rest_of s = go a
      where
        of_fewer : Claims (with_types held (without held.types types)) type byte → Rest type byte
        of_fewer o =
            let w = in_without held.types types type o.among in
            (record { among = w.0; there = o.there }, λ n. differ (sym n.among ∙ w.1))

        side : (p : Part types first last held) {from to : ℕ} → On held.types from to type byte
            → (from ≤ byte → byte ≤ to → (held.first ≤ byte) × (byte ≤ held.last) × ((byte < first) ⊎ (last < byte))) → Rest type byte
        side p o f =
            let r = by_byte p type byte h o in
            let w = f r.0 r.1 in
            (record { among = o.among; there = inr (w.0, w.1) }, λ n. let m = named_byte p type byte h n in out w.2 m.0 m.1)
          where
            out : (byte < first) ⊎ (last < byte) → first ≤ byte → byte ≤ last → ⊥
            out (inl u) v w = omega arith
            out (inr u) v w = omega arith

        go : Allowed types first last held → Rest type byte
        go (whole w) =
            each_kept types first last held (λ c. Claims c type byte → Rest type byte) (λ _ _. of_fewer)
            (λ q _. absurd (differ (sym w ∙ q))) (λ q _. absurd (differ (sym w ∙ q))) s.claim s.member s.on
        go (part p) =
            each_kept types first last held (λ c. Claims c type byte → Rest type byte) (λ q _. absurd (differ (sym q ∙ p.other)))
            (λ _ k o. side p o (λ u v. (u, omega (arith, p.ends), inl (omega arith))))
            (λ _ k o. side p o (λ u v. (omega (arith, p.starts), v, inr (omega arith)))) s.claim s.member s.on

    of_rest : Rest type byte → SomeClaims (kept types first last held) type byte
    of_rest r = go a
      where
        of_whole : is_whole first last held ≡ true → (b : Bool) → bit type types ≡ b → SomeClaims (kept types first last held) type byte
        of_whole w true q =
            let e = whole_range types first last held w in
            absurd (r.1 (record { among = q; there = rw (e.0, e.1) r.0.there }))
        of_whole w false q =
            let stay = without_in held.types types type h r.0.among q in
            record {
              claim = with_types held (without held.types types);
              member = fewer_stays types first last held w (nonempty (without held.types types) type stay);
              on = record { among = stay; there = r.0.there };
            }

        beside : (p : Part types first last held) → (held.first ≤ byte) × (byte ≤ held.last) → (b c : Bool) → ltb byte first ≡ b → ltb last byte ≡ c
            → SomeClaims (kept types first last held) type byte
        beside p k true c q s =
            let u = ltb-true byte first q in
            record {
              claim = with_range held held.first (first - 1);
              member = before_stays types first last held p.other (omega (arith, k.0));
              on = record { among = r.0.among; there = inr (k.0, omega arith) };
            }
        beside p k false true q s =
            let u = ltb-true last byte s in
            record {
              claim = with_range held (last + 1) held.last;
              member = after_stays types first last held p.other (omega (arith, k.1));
              on = record { among = r.0.among; there = inr (omega arith, k.1) };
            }
        beside p k false false q s =
            absurd (r.1 (record { among = rw p.all_types r.0.among; there = inr (ltb-false byte first q, ltb-false last byte s) }))

        go : Allowed types first last held → SomeClaims (kept types first last held) type byte
        go (whole w) = of_whole w (bit type types) refl
        go (part p) = beside p (by_byte p type byte h r.0) (ltb byte first) (ltb last byte) refl refl

  -- each claim that stays claims no more
  pub kept_within : Allowed types first last held → (claim : Claim) → Memᴰ claim (kept types first last held) → Within claim held
  kept_within a = each_kept types first last held (λ c. Within c held)
      (λ _ _. record { types = λ i e. (in_without held.types types i e).0; host = refl; file = refl; first = le_refl held.first; last = le_refl held.last })
      (λ w k. let e = side w a in record { types = λ i e. e; host = refl; file = refl; first = le_refl held.first; last = omega (arith, e.ends) })
      (λ w k. let e = side w a in record { types = λ i e. e; host = refl; file = refl; first = omega (arith, e.starts); last = le_refl held.last })
    where
      side : is_whole first last held ≡ false → Allowed types first last held → Part types first last held
      side w (whole q) = absurd (differ (sym q ∙ w))
      side w (part p) = p

  -- and is not malformed where the token was not
  pub kept_shaped : Allowed types first last held → (top : ℕ) → malformed held top ≡ false → (claim : Claim) → Memᴰ claim (kept types first last held) → malformed claim top ≡ false
  kept_shaped a top shaped claim m =
      shaped_within claim held top (kept_within a claim m) (some claim m).0 (some claim m).1 shaped
    where
      some : (claim : Claim) → Memᴰ claim (kept types first last held) → (claim.types ≢ 0) × (claim.first ≤ claim.last)
      some = each_kept types first last held (λ c. (c.types ≢ 0) × (c.first ≤ c.last))
          (λ _ n. (n, in-order-of held top shaped)) (λ _ k. (some_types held top shaped, omega arith)) (λ _ k. (some_types held top shaped, omega arith))

  pub by_byte_less : Allowed types first last held → (type byte : ℕ) → type < kinds → SomeClaims (kept types first last held) type byte ↔ Rest type byte
  by_byte_less a type byte h = (rest_of a type byte h, of_rest a type byte h)

pub less_named : LessNamed
less_named types first last held in_order says = by_byte_less types first last held in_order (allowed types first last held [] says).1
