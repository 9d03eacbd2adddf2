-- Which homes have a key in the schema of a text without a fault: those on whose line its home is.
use Rattle.std.proofs.Common.{◌≡◌, ℕ, zero, suc, ◌+◌, ◌≤◌, ◌↔◌, List, [], length, filter, Bool, true, false, not, ◌&&◌, ◌==◌, inl, inr, Option, Some, None, is_some, refl, sym, ap, subst, ◌∙◌, arith, ⊎_elim}
use Rattle.std.specs.List.{flat_map, list_any, position_from, range_with_len}
use Rattle.std.specs.Option.{option_to_list}
use Rattle.std.proofs.lemmas.Bool.{eqb-true, eq-eqb, and_from}
use Rattle.type_layout.specs.declared.home.HomeNo.{HomeNo}
use Rattle.type_layout.specs.declared.key.KeyNo.{KeyNo}
use Rattle.type_layout.specs.Schemas.{given, descends, has_key}
use Rattle.psdl_directory.specs.Declarations.{Declaration}
use Rattle.psdl_lineage.specs.Descent.{has, ancestry, base_home, concrete_homes, Listed, same_listed, home_keys}
use Rattle.psdl_check.specs.Faults.{first_fault}
use Rattle.psdl_directory.specs.Lookup.{at}
use Rattle.psdl_directory.specs.Parts.{is_concrete_home}
use Rattle.psdl_check.specs.Schemas.{Introduced, introduced, all_introduced, key_number, key_numbers, home_no, home_of, schema}
use Rattle.psdl_standings.specs.Standings.{standings}
use Rattle.psdl_check.proofs.KeyIding.{listed_itself}
use Rattle.psdl_sound.proofs.Positions.{any_by_place}
use Rattle.psdl_sound.proofs.Among.{Among, at_among, among_flat, among_image, among_map, among_any, any_among, Differ, differ_flat, differ_map, differ_chosen, one_place}
use Rattle.psdl_sound.proofs.Ancestors.{from_itself}
use Rattle.psdl_sound.proofs.BaseLines.{Line, at_end, by_home, IsConcrete, home_concrete, base_parent, line_of, line_ancestry, line_keys, one_line, line_descends, descends_is_line}
use Rattle.psdl_sound.proofs.Catalogs.{housed}
use Rattle.psdl_sound.proofs.Homes.{IsHome}
use Rattle.psdl_sound.proofs.KeyNames.{IsKey, is_key, IsNumber, number_told, numbered_key, keys_once}
use Rattle.psdl_sound.proofs.MemberLists.{among_has, has_among}
use Rattle.psdl_sound.proofs.Parents.{option_among}

-- ---- no key is introduced twice

range_from : (a k n : ℕ) → Among n (range_with_len a k) → a ≤ n
range_from a zero n there = absurd there
range_from a (suc k) n (inl e) = omega (arith, e)
range_from a (suc k) n (inr there) = omega (arith, range_from (a + 1) k n there)

range_differs : (a k : ℕ) → Differ (range_with_len a k)
range_differs a zero = tt
range_differs a (suc k) = (λ there. omega (arith, range_from (a + 1) k a there), range_differs (a + 1) k)

homes_differ : (all : List Declaration) → Differ (concrete_homes all)
unfolding concrete_homes
homes_differ all = differ_chosen (λ n. is_concrete_home (at all n).what) (range_with_len 0 (length all)) (range_differs 0 (length all))

introduced_at : (all : List Declaration) (h : ℕ) (i : Introduced) → Among i (introduced all h) → i.home ≡ h
introduced_at all h i a =
    let made : Listed → Introduced = λ k. record { home = h; listed = k } in
    let r = among_map made (filter (λ k. not (list_any (same_listed k) (given (base_home all h) [] (home_keys all)))) (home_keys all h)) i a in
    sym (ap (λ (x : Introduced). x.home) r.2)

all_differ : (all : List Declaration) → Differ (all_introduced all)
all_differ all =
    differ_flat (introduced all) (concrete_homes all) (homes_differ all)
    (λ h a.
    let made : Listed → Introduced = λ k. record { home = h; listed = k } in
    let test : Listed → Bool = λ k. not (list_any (same_listed k) (given (base_home all h) [] (home_keys all))) in
    differ_map made (filter test (home_keys all h)) (differ_chosen test (home_keys all h) (keys_once all h)) (λ x y a b e. ap (λ (i : Introduced). i.listed) e))
    (λ g h i a b u v. sym (introduced_at all g i u) ∙ introduced_at all h i v)

-- ---- one home of a line introduces a key

both_same : (i j : Introduced) → i.home ≡ j.home → i.listed ≡ j.listed → i ≡ j
both_same i j a b = ap (λ (h : ℕ). record { home = h; listed = i.listed }) a ∙ ap (λ (k : Listed). record { home = j.home; listed = k }) b

found_somewhere : {X : Type 0} (test : X → Bool) (xs : List X) → list_any test xs ≡ true → (m : ℕ) × (position_from test 0 xs ≡ Some m)
found_somewhere test xs on = by (position_from test 0 xs) refl (any_by_place test 0 xs ∙ on)
  where
    by : (o : Option ℕ) → position_from test 0 xs ≡ o → is_some o ≡ true → (m : ℕ) × (position_from test 0 xs ≡ Some m)
    by None e on = absurd (cc)
    by (Some m) e on = (m, e)

module _ (all : List Declaration) (none : first_fault all ≡ None) where
  -- the home that introduces a key is a concrete one
  pub introducer : (n : ℕ) (i : Introduced) → IsKey all n i → IsConcrete all i.home
  introducer n i key = let home = housed all i.home key.is_home in home_concrete all home.0 i.home home.1

  -- what a base on the way has is not new
  one_new : (m n : ℕ) (i j : Introduced) → IsKey all m i → IsKey all n j → i.listed ≡ j.listed → Line all i.home j.home → i.home ≡ j.home
  one_new m n i j first second same line = by i.home j.home line refl refl
    where
      by : (g f : ℕ) → Line all g f → g ≡ i.home → f ≡ j.home → i.home ≡ j.home
      by g f (at_end _) e d = sym e ∙ d
      by g f (by_home _ b _ is rest) e d =
          let home : IsConcrete all g = subst (λ (h : ℕ). IsConcrete all h) (sym e) (introducer m i first) in
          let there : Among j.listed (home_keys all f) = subst (λ (h : ℕ). Among j.listed (home_keys all h)) (sym d) second.is_listed in
          let known : Among j.listed (home_keys all b) = line_keys all none b f j.listed (base_parent all none g b home is).2 rest there in
          let alike : same_listed i.listed j.listed ≡ true = ap (same_listed i.listed) (sym same) ∙ listed_itself i.listed i.listed refl in
          let on : list_any (same_listed i.listed) (home_keys all b) ≡ true = any_among (same_listed i.listed) (home_keys all b) j.listed known alike in
          let base : base_home all i.home ≡ Some b = ap (base_home all) (sym e) ∙ is in
          let both : true ≡ false = sym on ∙ sym (ap (λ (o : Option ℕ). list_any (same_listed i.listed) (given o [] (home_keys all))) base) ∙ first.is_new in
          absurd (cc)

  -- two keys of a line with one name and list are one
  one_key : (h m n : ℕ) (i j : Introduced) → IsKey all m i → IsKey all n j → i.listed ≡ j.listed → Line all h i.home → Line all h j.home → m ≡ n
  one_key h m n i j first second same one two =
      let home : i.home ≡ j.home = ⊎_elim (λ l. one_new m n i j first second same l) (λ l. sym (one_new n m j i second first (sym same) l)) (one_line all none h i.home j.home one two) in
      let whole : i ≡ j = both_same i j home same in
      one_place (all_introduced all) (all_differ all) m n i first.at_place (second.at_place ∙ ap (λ x. Some x) (sym whole))

  -- ---- which homes have a key

  -- a home that has a key has its home on its line
  pub key_on_line : (n : ℕ) (i : Introduced) → IsKey all n i → (h : ℕ) → IsConcrete all h → has_key (home_of all (standings all) h) (record { 0 = n }) ≡ true → Line all h i.home
  key_on_line n i key h home on =
      let r = among_any (λ (j : KeyNo). j.0 == n) (key_numbers all h) on in
      let number : r.0.0 ≡ n = eqb-true r.0.0 n r.2 in
      let k = numbered_key all h r.0 r.1 in
      let told : IsNumber all h k.0 n = number_told all h k.0 n (k.2 ∙ ap (λ m. Some m) number) in
      let both : Some told.found ≡ Some i = sym told.at_place ∙ key.at_place in
      let same : told.found ≡ i = cc in
      let there : Among i.home (ancestry all h) = has_among (ancestry all h) i.home (ap (λ (x : Introduced). has (ancestry all h) x.home) (sym same) ∙ told.in_line) in
      line_of all none h i.home home (introducer n i key).is_concrete there

  -- on the line of a home its keys have their numbers
  pub line_number : (n : ℕ) (i : Introduced) → IsKey all n i → (h : ℕ) → IsConcrete all h → Line all h i.home → key_number all h i.listed ≡ Some n
  line_number n i key h home line =
      let there : has (ancestry all h) i.home ≡ true =
      among_has (ancestry all h) i.home (line_ancestry all none h i.home i.home home line (from_itself all none i.home (introducer n i key).is_declared)) in
      let test : Introduced → Bool = λ j. has (ancestry all h) j.home && same_listed i.listed j.listed in
      let here : test i ≡ true = and_from (has (ancestry all h) i.home) (same_listed i.listed i.listed) there (listed_itself i.listed i.listed refl) in
      let found = found_somewhere test (all_introduced all) (any_among test (all_introduced all) i (at_among (all_introduced all) n i key.at_place) here) in
      let told : IsNumber all h i.listed found.0 = number_told all h i.listed found.0 found.1 in
      let other : IsKey all found.0 told.found = is_key all found.0 told.found told.at_place in
      let its_line : Line all h told.found.home = line_of all none h told.found.home home (introducer found.0 told.found other).is_concrete (has_among (ancestry all h) told.found.home told.in_line) in
      let same : found.0 ≡ n = one_key h found.0 n told.found i other key told.one_list its_line line in
      found.1 ∙ ap (λ m. Some m) same

  -- a home on whose line the home of a key is has the key
  pub line_has_key : (n : ℕ) (i : Introduced) → IsKey all n i → (h : ℕ) → IsConcrete all h → Line all h i.home → has_key (home_of all (standings all) h) (record { 0 = n }) ≡ true
  line_has_key n i key h home line =
      let f : Listed → List ℕ = λ k. option_to_list (key_number all h k) in
      let made : ℕ → KeyNo = λ n. record { 0 = n } in
      let listed : Among i.listed (home_keys all h) = line_keys all none h i.home i.listed home line key.is_listed in
      let there : Among n (flat_map f (home_keys all h)) = among_flat f (home_keys all h) i.listed n listed (option_among (key_number all h i.listed) n (line_number n i key h home line)) in
      any_among (λ (j : KeyNo). j.0 == n) (key_numbers all h) (made n) (among_image made (flat_map f (home_keys all h)) n there) (eq-eqb n n refl)

  -- a home has the keys of its line, and none besides
  pub keyed : (n : ℕ) (i : Introduced) → IsKey all n i → (k h : ℕ) → IsHome all k h
      → (has_key (home_of all (standings all) h) (record { 0 = n }) ≡ true) ↔ (descends (schema all) (record { 0 = suc k }) (home_no all i.home) ≡ true)
  keyed n i key k h home =
      let concrete : IsConcrete all h = home_concrete all k h home in
      let number : home_no all h ≡ record { 0 = suc k } = ap (λ (m : ℕ). record { 0 = m }) home.has_number in (
        λ on. ap (λ (x : HomeNo). descends (schema all) x (home_no all i.home)) (sym number) ∙ line_descends all none h i.home concrete (key_on_line n i key h concrete on),
        λ on.
            line_has_key n i key h concrete
            (descends_is_line all none h i.home concrete (introducer n i key) (ap (λ (x : HomeNo). descends (schema all) x (home_no all i.home)) number ∙ on)),
      )
