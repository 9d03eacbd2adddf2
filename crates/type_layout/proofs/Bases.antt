-- The steps from base to base find exactly the homes that a home derives from.
use Rattle.std.proofs.Common.{ℕ, zero, suc, ◌≡◌, ◌<◌, ◌≤◌, ◌-◌, ◌+◌, List, length, Option, Some, None, Bool, true, false, refl, sym, ap, ◌∙◌, arith, subst, eq-eqb, eqb-true}
use Rattle.std.specs.Prelude.{◌||◌, ◌==◌, ◌↔◌, IsTrue}
use Rattle.std.proofs.lemmas.Option.{slice_get_within}
use Rattle.type_layout.specs.declared.home.HomeNo.{HomeNo}
use Rattle.type_layout.specs.declared.schema.Home.{Home}
use Rattle.type_layout.specs.declared.schema.Schema.{Schema}
use Rattle.type_layout.specs.Schemas.{nth, given, home_at, base_of, DescendsFrom, itself, by_base, descends_within, descends}
use Rattle.type_layout.specs.Sound.{IsSoundSchema, IsLower}

either : (a b : Bool) (P : Type 0) → (a ≡ true → P) → (b ≡ true → P) → (a || b) ≡ true → P
either true b P f g h = f refl
either false b P f g h = g h

or_right : (a b : Bool) → b ≡ true → (a || b) ≡ true
or_right true b h = refl
or_right false b h = h

same_home : (h of : HomeNo) → h.0 ≡ of.0 → h ≡ of
same_home h of e = λ i. record { 0 = e i }

pub reached : (S : Schema) (n : ℕ) (h of : HomeNo) → descends_within n S h of ≡ true → DescendsFrom S h of
reached S zero h of e = absurd cc
reached S (suc n) h of e =
    either (h.0 == of.0) (given (base_of S h) false (λ b. descends_within n S b of)) (DescendsFrom S h of)
    (λ same. subst (DescendsFrom S h) (same_home h of (eqb-true h.0 of.0 same)) (itself h))
    (λ more. by (λ b. reached S n b of) (base_of S h) refl more)
    e
  where
    by : ((b : HomeNo) → descends_within n S b of ≡ true → DescendsFrom S b of) → (o : Option HomeNo) → base_of S h ≡ o → given o false (λ b. descends_within n S b of) ≡ true → DescendsFrom S h of
    by on None is more = absurd cc
    by on (Some b) is more = by_base h b of is (on b more)

nth_within : {A : Type 0} (xs : List A) (n : ℕ) (x : A) → nth xs n ≡ Some x → n ≤ length xs
nth_within xs zero x h = omega arith
nth_within xs (suc n) x h = (let lt = slice_get_within xs n x h in omega arith)

-- a home that has a base is there, and its base is lower
record Based (S : Schema) (h b : HomeNo) : Type 0 where
  there : h.0 ≤ length S.homes
  lower : b.0 < h.0

based : (S : Schema) → IsSoundSchema S → (h b : HomeNo) → base_of S h ≡ Some b → Based S h b
based S sound h b is = by (home_at S h) refl is
  where
    by : (o : Option Home) → home_at S h ≡ o → given o None (λ home. home.base) ≡ Some b → Based S h b
    by None at is = absurd cc
    by (Some home) at is = record {
      there = nth_within S.homes h.0 home at;
      lower = (let l : IsLower (Some b) h = subst (λ (o : Option HomeNo). IsLower o h) is (sound.bases h home at) in l.1);
    }

found_within : (S : Schema) → IsSoundSchema S → (h of : HomeNo) → DescendsFrom S h of → (n : ℕ) → h.0 ≤ n → descends_within (suc n) S h of ≡ true
found_within S sound h of (itself _) n le = ap (λ x. x || given (base_of S h) false (λ b. descends_within n S b h)) (eq-eqb h.0 h.0 refl)
found_within S sound h of (by_base _ b _ is rest) zero le = (let l = (based S sound h b is).lower in absurd (omega arith))
found_within S sound h of (by_base _ b _ is rest) (suc n) le =
    let l = (based S sound h b is).lower in
    or_right (h.0 == of.0) _ (ap (λ o. given o false (λ b. descends_within (suc n) S b of)) is ∙ found_within S sound b of rest n (omega arith))

pub found : (S : Schema) → IsSoundSchema S → (h of : HomeNo) → DescendsFrom S h of → descends S h of ≡ true
found S sound h of (itself _) = ap (λ x. x || given (base_of S h) false (λ b. descends_within (length S.homes) S b h)) (eq-eqb h.0 h.0 refl)
found S sound h of (by_base _ b _ is rest) = found_within S sound h of (by_base h b of is rest) (length S.homes) (based S sound h b is).there

pub means : (S : Schema) (h of : HomeNo) (b : Bool) → b ≡ descends S h of → IsSoundSchema S → IsTrue b ↔ DescendsFrom S h of
means S h of b is sound = (λ t. reached S (suc (length S.homes)) h of (sym is ∙ t), λ d. is ∙ found S sound h of d)

pub goes_on : (S : Schema) (n i : ℕ) (h b of : HomeNo) (D : Bool) → i < n → (h.0 == of.0) ≡ false → base_of S h ≡ Some b → descends_within (n - i) S h of ≡ D → descends_within (n - (i + 1)) S b of ≡ D
goes_on S n i h b of D lt other is so_far =
    let k : n - i ≡ suc (n - (i + 1)) = omega arith in
    let step : descends_within (n - i) S h of ≡ descends_within (n - (i + 1)) S b of =
    ap (λ m. descends_within m S h of) k ∙ ap (λ x. x || given (base_of S h) false (λ c. descends_within (n - (i + 1)) S c of)) other ∙ ap (λ o. given o false (λ c. descends_within (n - (i + 1)) S c of)) is in
    sym step ∙ so_far
