-- Two homes are of one family where their roots are one.
use Rattle.std.proofs.Common.{◌≡◌, ◌<◌, ◌≤◌, ℕ, zero, suc, ◌+◌, Bool, true, false, ◌==◌, ◌&&◌, ◌||◌, List, [], ◌∷◌, length, Option, Some, None, refl, sym, ap, subst, ◌∙◌, arith}
use Rattle.std.specs.Prelude.{IsSome}
use Rattle.std.specs.List.{list_any}
use Rattle.std.specs.Option.{is_some}
use Rattle.std.proofs.lemmas.Bool.{eqb-true, eq-eqb}
use Rattle.std.proofs.lemmas.Option.{slice_get_within}
use Rattle.type_layout.specs.declared.home.HomeNo.{HomeNo}
use Rattle.type_layout.specs.declared.schema.Home.{Home}
use Rattle.type_layout.specs.declared.schema.Schema.{Schema}
use Rattle.type_layout.specs.Schemas.{nth, given, home_at, base_of, descends, DescendsFrom, itself, by_base}
use Rattle.type_layout.specs.Sound.{IsSoundSchema, IsLower}
use Rattle.type_layout.proofs.Bases.{reached, found}
use Rattle.pss_catalog.specs.Families.{IsRootOf}
use Rattle.pss_laws.proofs.Logic.{and_left, and_right, and_both, or_right}
use Rattle.pss_machine.specs.Homes.{all_homes, numbers_from, is_root, in_one_family}

-- a home has one root
one_root : (S : Schema) (g a b : HomeNo) → DescendsFrom S g a → base_of S a ≡ None → DescendsFrom S g b → base_of S b ≡ None → a ≡ b
one_root S g a b (itself _) top (itself _) other = refl
one_root S g a b (itself _) top (by_base _ c _ is rest) other = absurd (let wrong : None ≡ Some c = sym top ∙ is in cc)
one_root S g a b (by_base _ c _ is rest) top (itself _) other = absurd (let wrong : None ≡ Some c = sym other ∙ is in cc)
one_root S g a b (by_base _ c _ is rest) top (by_base _ d _ too more) other =
    let both : Some c ≡ Some d = sym is ∙ too in
    let same : c ≡ d = cc in
    one_root S d a b (subst (λ (h : HomeNo). DescendsFrom S h a) same rest) top more other

-- ---- roots are among the homes

abbrev IsWithin : Schema → HomeNo → Type 0
IsWithin S h = (0 < h.0) × (h.0 ≤ length S.homes)

within : (S : Schema) (h : HomeNo) (home : Home) → home_at S h ≡ Some home → IsWithin S h
within S h home is = by h.0 is
  where
    by : (n : ℕ) → nth S.homes n ≡ Some home → (0 < n) × (n ≤ length S.homes)
    by zero at = absurd cc
    by (suc n) at = (let lt = slice_get_within S.homes n home at in (omega arith, omega (arith, lt)))

base_within : (S : Schema) → IsSoundSchema S → (h b : HomeNo) → base_of S h ≡ Some b → IsWithin S b
base_within S sound h b is = by (home_at S h) refl is
  where
    by : (o : Option Home) → home_at S h ≡ o → given o None (λ home. home.base) ≡ Some b → IsWithin S b
    by None at is = absurd cc
    by (Some home) at is =
        let low : IsLower (Some b) h = subst (λ (o : Option HomeNo). IsLower o h) is (sound.bases h home at) in
        let own = within S h home at in
        (low.0, omega (arith, low.1, own.1))

root_within : (S : Schema) → IsSoundSchema S → (h r : HomeNo) → IsWithin S h → DescendsFrom S h r → IsWithin S r
root_within S sound h r own (itself _) = own
root_within S sound h r own (by_base _ b _ is rest) = root_within S sound b r (base_within S sound h b is) rest

or_left : (a b : Bool) → a ≡ true → (a || b) ≡ true
or_left true b e = refl
or_left false b e = absurd cc

any_number : (test : HomeNo → Bool) (n : ℕ) (homes : List Home) (i : ℕ) → i < length homes → test (record { 0 = n + i }) ≡ true → list_any test (numbers_from n homes) ≡ true
any_number test n [] i lt passes = absurd (omega (arith, lt))
any_number test n (home ∷ homes) zero lt passes = (let e : n ≡ n + 0 = omega arith in or_left (test (record { 0 = n })) _ ((λ j. test (record { 0 = e j })) ∙ passes))
any_number test n (home ∷ homes) (suc i) lt passes = (let e : n + 1 + i ≡ n + suc i = omega arith in or_right (test (record { 0 = n })) _ (any_number test (n + 1) homes i (omega (arith, lt)) ((λ j. test (record { 0 = e j })) ∙ passes)))

-- the first that passes
some_number : (test : HomeNo → Bool) (hs : List HomeNo) → list_any test hs ≡ true → (h : HomeNo) × (test h ≡ true)
some_number test [] e = absurd cc
some_number test (h ∷ hs) e = by (test h) refl e (some_number test hs)
  where
    by : (b : Bool) → test h ≡ b → (b || list_any test hs) ≡ true → (list_any test hs ≡ true → (h : HomeNo) × (test h ≡ true)) → (h : HomeNo) × (test h ≡ true)
    by true is more rest = (h, is)
    by false is more rest = rest more

-- ---- one family

without_base : (S : Schema) (h : HomeNo) → is_root S h ≡ true → base_of S h ≡ None
without_base S h e = by (base_of S h) refl e
  where
    by : (o : Option HomeNo) → base_of S h ≡ o → given o true (λ base. false) ≡ true → base_of S h ≡ None
    by None is e = is
    by (Some b) is e = absurd cc

abbrev before_it : ℕ → ℕ
before_it zero = zero
before_it (suc n) = n

behind_it : (n : ℕ) → 0 < n → 1 + before_it n ≡ n
behind_it zero lt = absurd (omega (arith, lt))
behind_it (suc n) lt = omega arith

module _ (S : Schema) (sound : IsSoundSchema S) (g h r q : HomeNo) (own : IsRootOf S g r) (other : IsRootOf S h q) where
  abbrev is_common : HomeNo → Bool
  is_common root = is_root S root && (descends S g root && descends S h root)

  same_roots : IsWithin S g → r.0 ≡ q.0 → in_one_family S g h ≡ true
  same_roots there same =
      let at = root_within S sound g r there own.derives in
      let number : 1 + before_it r.0 ≡ r.0 = behind_it r.0 at.0 in
      let one : record { 0 = 1 + before_it r.0 } ≡ r = λ j. record { 0 = number j } in
      let equal : r ≡ q = λ j. record { 0 = same j } in
      any_number is_common 1 S.homes (before_it r.0) (omega (arith, number, at.1))
      (ap is_common one ∙ and_both (is_root S r) _ (ap (λ (o : Option HomeNo). given o true (λ base. false)) own.first)
      (and_both (descends S g r) _ (found S sound g r own.derives) (found S sound h r (subst (DescendsFrom S h) (sym equal) other.derives))))

  one_family : in_one_family S g h ≡ true → r.0 ≡ q.0
  one_family e =
      let it = some_number is_common (all_homes S) e in
      let top = without_base S it.0 (and_left (is_root S it.0) _ it.1) in
      let both = and_right (is_root S it.0) _ it.1 in
      let from_g = reached S (suc (length S.homes)) g it.0 (and_left (descends S g it.0) _ both) in
      let from_h = reached S (suc (length S.homes)) h it.0 (and_right (descends S g it.0) _ both) in
      ap (λ (x : HomeNo). x.0) (one_root S g r it.0 own.derives own.first from_g top ∙ sym (one_root S h q it.0 other.derives other.first from_h top))

  pub family_by_roots : IsSome (home_at S g) → (r.0 == q.0) ≡ in_one_family S g h
  family_by_roots there = by (r.0 == q.0) refl (in_one_family S g h) refl
    where
      own_place : (o : Option Home) → home_at S g ≡ o → is_some o ≡ true → IsWithin S g
      own_place None is some = absurd cc
      own_place (Some home) is some = within S g home is

      by : (a : Bool) → (r.0 == q.0) ≡ a → (b : Bool) → in_one_family S g h ≡ b → (r.0 == q.0) ≡ in_one_family S g h
      by true x true y = x ∙ sym y
      by false x false y = x ∙ sym y
      by true x false y = (let yes = same_roots (own_place (home_at S g) refl there) (eqb-true r.0 q.0 x) in let wrong : false ≡ true = sym y ∙ yes in absurd cc)
      by false x true y = (let yes = eq-eqb r.0 q.0 (one_family y) in let wrong : false ≡ true = sym x ∙ yes in absurd cc)
