-- The line of bases of a home of a text without a fault: the concrete homes that it descends from.
use Rattle.std.proofs.Common.{◌≡◌, ℕ, zero, suc, ◌<◌, ◌≤◌, List, [], ◌++◌, length, map, Bool, true, false, cond, ◌&&◌, ◌||◌, ◌==◌, ◌⊎◌, inl, inr, Option, Some, None, refl, sym, ap, subst, ◌∙◌, arith, ⊎_elim}
use Rattle.std.specs.List.{flat_map, find, range_with_len}
use Rattle.std.specs.Option.{option_to_list, option_map}
use Rattle.std.proofs.lemmas.Bool.{eqb-true, eq-eqb, or_left, or_right, cases_order, cases_Bool}
use Rattle.std.proofs.lemmas.Option.{slice_get_within}
use Rattle.psdl_tree.specs.Trees.{Name}
use Rattle.type_layout.specs.declared.home.HomeNo.{HomeNo}
use Rattle.type_layout.specs.declared.schema.Home.{Home}
use Rattle.type_layout.specs.Schemas.{given, base_of, descends_within, descends}
use Rattle.psdl_directory.specs.Declarations.{What, IsModule, IsConstant, IsAlias, IsStruct, IsEnumeration, IsEnumerator, IsAbstractType, IsConcreteType, IsAbstractHome, IsConcreteHome, IsCatalog, Declaration}
use Rattle.psdl_lineage.specs.Descent.{ancestry, base_home, concrete_homes, Listed, same_listed, listed_key, home_keys}
use Rattle.psdl_check.specs.Faults.{first_fault}
use Rattle.psdl_rules.specs.Faults.Limit.{home_number}
use Rattle.psdl_directory.specs.Lookup.{at, defined}
use Rattle.psdl_directory.specs.Parts.{is_storage_type, is_home, is_abstract_home, is_concrete_home, bases, implemented, parents, keys}
use Rattle.psdl_check.specs.Schemas.{home_no, schema}
use Rattle.psdl_check.proofs.KeyIding.{listed_is}
use Rattle.psdl_lineage.proofs.Kept.{has_range}
use Rattle.psdl_sound.proofs.Among.{Among, at_among, among_front, among_parts, among_flat, among_from, among_passing, among_fresh, among_once}
use Rattle.psdl_sound.proofs.Ancestors.{parents_of, parent_told, parent_from, parent_passes, parent_in_front, from_parent, from_whom, abstract_homes, same_some}
use Rattle.psdl_sound.proofs.Catalogs.{housed, home_at_number}
use Rattle.psdl_sound.proofs.Homes.{IsHome, homes_count}
use Rattle.psdl_check.proofs.Meanings.{IsDefinition, definition_is, IsOneOf, base_is}
use Rattle.psdl_sound.proofs.MemberLists.{has_among}
use Rattle.psdl_sound.proofs.Parents.{Stands, base_stands, implemented_stands, concrete_home_kind, abstract_home_kind}
use Rattle.psdl_sound.proofs.HomeNumbers.{lower_number}

-- ---- lines

-- from base to base one comes to a home
pub data Line (all : List Declaration) : ℕ → ℕ → Type 0 where
  at_end : (h : ℕ) → Line all h h
  by_home : (h b g : ℕ) → base_home all h ≡ Some b → Line all b g → Line all h g

-- a declared concrete home
pub record IsConcrete (all : List Declaration) (h : ℕ) : Type 0 where
  pub is_declared : h < length all
  pub is_concrete : is_concrete_home (at all h).what ≡ true

-- it is one of the concrete homes
pub concrete_among : (all : List Declaration) (h : ℕ) → IsConcrete all h → Among h (concrete_homes all)
unfolding concrete_homes
concrete_among all h home =
    among_passing (λ n. is_concrete_home (at all n).what) (range_with_len 0 (length all)) h
    (has_among (range_with_len 0 (length all)) h (has_range 0 (length all) h (omega arith) (omega (arith, home.is_declared)))) home.is_concrete

-- so is each by its place
pub home_concrete : (all : List Declaration) (k h : ℕ) → IsHome all k h → IsConcrete all h
home_concrete all k h home = record { is_declared = home.is_declared; is_concrete = home.is_concrete }

concrete_is_home : (what : What) → is_concrete_home what ≡ true → is_home what ≡ true
concrete_is_home (IsConcreteHome home) is = refl
concrete_is_home IsModule is = absurd (cc)
concrete_is_home (IsConstant constant) is = absurd (cc)
concrete_is_home (IsAlias before spec dimensions) is = absurd (cc)
concrete_is_home (IsStruct struct) is = absurd (cc)
concrete_is_home (IsEnumeration enumerators) is = absurd (cc)
concrete_is_home IsEnumerator is = absurd (cc)
concrete_is_home (IsAbstractType body) is = absurd (cc)
concrete_is_home (IsConcreteType body) is = absurd (cc)
concrete_is_home (IsAbstractHome body) is = absurd (cc)
concrete_is_home (IsCatalog provisions) is = absurd (cc)

both_homes : (a b : Bool) (x y : Bool) → x ≡ true → y ≡ true → (a && b) || (x && y) ≡ true
both_homes a b true true p q = or_right (a && b) true refl
both_homes a b false y p q = absurd (cc)
both_homes a b true false p q = absurd (cc)

none_concrete : (what : What) → is_abstract_home what ≡ true → is_concrete_home what ≡ true → ⊥
none_concrete (IsAbstractHome body) a c = cc
none_concrete IsModule a c = cc
none_concrete (IsConstant constant) a c = cc
none_concrete (IsAlias before spec dimensions) a c = cc
none_concrete (IsStruct struct) a c = cc
none_concrete (IsEnumeration enumerators) a c = cc
none_concrete IsEnumerator a c = cc
none_concrete (IsAbstractType body) a c = cc
none_concrete (IsConcreteType body) a c = cc
none_concrete (IsConcreteHome home) a c = cc
none_concrete (IsCatalog provisions) a c = cc

module _ (all : List Declaration) (none : first_fault all ≡ None) where
  -- the base of a home is a home in front, and a parent
  pub base_parent : (h b : ℕ) → IsConcrete all h → base_home all h ≡ Some b → Among b (parents_of all h) × (b < h) × IsConcrete all b
  base_parent h b home is =
      let base : IsOneOf all h (bases (at all h).what) (λ m. is_concrete_home (at all m).what) b = base_is all h b is in
      let whole : IsDefinition all base.means.declared b = definition_is all base.means.declared b base.means.is_definition in
      let parent : Among b (parents_of all h) =
      parent_from all h b
      (record {
        name = base.name;
        is_name = among_front base.name (bases (at all h).what) (implemented (at all h).what) (at_among (bases (at all h).what) base.place base.name base.at_place);
        is_defined = option_then base;
        one_sort = both_homes (is_storage_type (at all h).what) (is_storage_type (at all b).what) (is_home (at all h).what) (is_home (at all b).what) (concrete_is_home (at all h).what home.is_concrete) (concrete_is_home (at all b).what base.passes);
      }) in
      (parent, parent_in_front all none h b home.is_declared parent, record { is_declared = whole.is_declared; is_concrete = base.passes })
    where
      option_then : (base : IsOneOf all h (bases (at all h).what) (λ m. is_concrete_home (at all m).what) b) → defined all h base.name ≡ Some b
      option_then base = rw base.means.is_named base.means.is_definition

  -- ---- the concrete homes that a home descends from

  base_found : (h p : ℕ) (o : Option Name) (name : Name) → Among name (option_to_list o) → defined all h name ≡ Some p → is_concrete_home (at all p).what ≡ true
      → find (λ b. is_concrete_home (at all b).what) (flat_map (λ name. option_to_list (defined all h name)) (option_to_list o)) ≡ Some p
  base_found h p None name a is on = absurd a
  base_found h p (Some m) name (inl e) is on =
      ap (λ (n : Name). find (λ b. is_concrete_home (at all b).what) (option_to_list (defined all h n) ++ [])) e
      ∙ ap (λ (o : Option ℕ). find (λ b. is_concrete_home (at all b).what) (option_to_list o ++ [])) is
      ∙ ap (λ (b : Bool). cond b (Some p) None) on
  base_found h p (Some m) name (inr a) is on = absurd a

  -- a parent of a concrete home is its base, or abstract
  home_parent : (h p : ℕ) → h < length all → (what : What) → (at all h).what ≡ what → is_concrete_home what ≡ true → Among p (parents_of all h) → (base_home all h ≡ Some p) ⊎ (is_abstract_home (at all p).what ≡ true)
  home_parent h p lt (IsConcreteHome home) is on a =
      let told = parent_told all h p a in
      let what : What = IsConcreteHome home in
      let named : Among told.name (parents what) = subst (λ (w : What). Among told.name (parents w)) is told.is_name in
      ⊎_elim
      (λ b.
      let stands : Stands h (at all h).what told.name is_concrete_home = subst (λ (w : What). Stands h w told.name is_concrete_home) (sym is) (base_stands h what told.name is_concrete_home b (λ w s m. m)) in
      let concrete : is_concrete_home (at all p).what ≡ true = (parent_passes all none h p lt told.name is_concrete_home concrete_home_kind stands told.is_defined).1 in
      inl
      (ap (λ (w : What). find (λ b. is_concrete_home (at all b).what) (flat_map (λ name. option_to_list (defined all h name)) (bases w))) is
      ∙ base_found h p home.base told.name b told.is_defined concrete))
      (λ i.
      let stands : Stands h (at all h).what told.name is_abstract_home = subst (λ (w : What). Stands h w told.name is_abstract_home) (sym is) (implemented_stands h what told.name is_abstract_home i (λ w s m. m)) in
      inr (parent_passes all none h p lt told.name is_abstract_home abstract_home_kind stands told.is_defined).1)
      (among_parts told.name (bases what) (implemented what) named)
  home_parent h p lt IsModule is on a = absurd (cc)
  home_parent h p lt (IsConstant constant) is on a = absurd (cc)
  home_parent h p lt (IsAlias before spec dimensions) is on a = absurd (cc)
  home_parent h p lt (IsStruct struct) is on a = absurd (cc)
  home_parent h p lt (IsEnumeration enumerators) is on a = absurd (cc)
  home_parent h p lt IsEnumerator is on a = absurd (cc)
  home_parent h p lt (IsAbstractType body) is on a = absurd (cc)
  home_parent h p lt (IsConcreteType body) is on a = absurd (cc)
  home_parent h p lt (IsAbstractHome body) is on a = absurd (cc)
  home_parent h p lt (IsCatalog provisions) is on a = absurd (cc)

  line_below : (k h g : ℕ) → h < k → IsConcrete all h → is_concrete_home (at all g).what ≡ true → Among g (ancestry all h) → Line all h g
  line_below zero h g low home on there = absurd (omega (arith, low))
  line_below (suc k) h g low home on there =
      ⊎_elim (λ same. subst (λ (m : ℕ). Line all h m) same (at_end h))
      (λ r.
      let front : r.0 < h = parent_in_front all none h r.0 home.is_declared r.1 in
      ⊎_elim
      (λ base. by_home h r.0 g base (line_below k r.0 g (omega (arith, front, low)) (base_parent h r.0 home base).2 on r.2))
      (λ abstract. absurd (none_concrete (at all g).what (abstract_homes all none r.0 g (omega (arith, front, home.is_declared)) abstract r.2) on))
      (home_parent h r.0 home.is_declared (at all h).what refl home.is_concrete r.1))
      (from_whom all none h g home.is_declared there)

  -- a concrete home that a home descends from is on its line
  pub line_of : (h g : ℕ) → IsConcrete all h → is_concrete_home (at all g).what ≡ true → Among g (ancestry all h) → Line all h g
  line_of h g home on there = line_below (suc h) h g (omega arith) home on there

  -- what is on the line is a home
  pub line_concrete : (h g : ℕ) → IsConcrete all h → Line all h g → IsConcrete all g
  line_concrete h g home (at_end _) = home
  line_concrete h g home (by_home _ b _ is rest) = line_concrete b g (base_parent h b home is).2 rest

  -- and what it descends from the home does
  pub line_ancestry : (h g a : ℕ) → IsConcrete all h → Line all h g → Among a (ancestry all g) → Among a (ancestry all h)
  line_ancestry h g a home (at_end _) there = there
  line_ancestry h g a home (by_home _ b _ is rest) there =
      let base = base_parent h b home is in
      from_parent all none h b a home.is_declared base.0 (line_ancestry b g a base.2 rest there)

  -- so its keys are the home's
  pub line_keys : (h g : ℕ) (k : Listed) → IsConcrete all h → Line all h g → Among k (home_keys all g) → Among k (home_keys all h)
  line_keys h g k home line a =
      let f : ℕ → List Listed = λ a. map listed_key (keys (at all a).what) in
      let r = among_from f (ancestry all g) k (among_fresh same_listed [] (flat_map f (ancestry all g)) k a) in
      among_once same_listed listed_is (flat_map f (ancestry all h)) k (among_flat f (ancestry all h) r.0 k (line_ancestry h g r.0 home line r.1) r.2)

  -- of two homes on a line one is on the line of the other
  pub one_line : (h g f : ℕ) → Line all h g → Line all h f → Line all g f ⊎ Line all f g
  one_line h g f (at_end _) line = inl line
  one_line h g f (by_home _ b _ is rest) (at_end _) = inr (by_home h b g is rest)
  one_line h g f (by_home _ b _ is rest) (by_home _ c _ more further) =
      let same : c ≡ b = same_some c b (sym more ∙ is) in
      one_line b g f rest (subst (λ (m : ℕ). Line all m f) same further)

  -- ---- lines by number

  -- a home's number tells it
  pub number_tells : (h g : ℕ) → IsConcrete all h → IsConcrete all g → home_number all h ≡ home_number all g → h ≡ g
  number_tells h g a b e =
      ⊎_elim (λ same. same)
      (λ differ.
      ⊎_elim (λ less. absurd (omega (arith, e, lower_number all h g less b.is_declared a.is_concrete b.is_concrete)))
      (λ more. absurd (omega (arith, e, lower_number all g h more a.is_declared b.is_concrete a.is_concrete))) differ)
      (cases_order h g)

  base_at : (h : ℕ) → IsConcrete all h → base_of (schema all) (home_no all h) ≡ option_map (home_no all) (base_home all h)
  base_at h home =
      let r = housed all h (concrete_among all h home) in
      ap (λ (o : Option Home). given o None (λ home. home.base)) (home_at_number all r.0 h r.1)

  descends_line : (n h g : ℕ) → IsConcrete all h → home_number all h ≤ n → Line all h g → descends_within (suc n) (schema all) (home_no all h) (home_no all g) ≡ true
  descends_line n h g home le (at_end _) =
      or_left (home_number all h == home_number all h) (given (base_of (schema all) (home_no all h)) false (λ b. descends_within n (schema all) b (home_no all h))) (eq-eqb (home_number all h) (home_number all h) refl)
  descends_line zero h g home le (by_home _ b _ is rest) =
      let base = base_parent h b home is in
      absurd (omega (arith, le, lower_number all b h base.1 home.is_declared base.2.is_concrete home.is_concrete))
  descends_line (suc n) h g home le (by_home _ b _ is rest) =
      let base = base_parent h b home is in
      or_right (home_number all h == home_number all g) (given (base_of (schema all) (home_no all h)) false (λ b. descends_within (suc n) (schema all) b (home_no all g)))
      (ap (λ (o : Option HomeNo). given o false (λ b. descends_within (suc n) (schema all) b (home_no all g))) (base_at h home ∙ ap (option_map (home_no all)) is)
      ∙ descends_line n b g base.2 (omega (arith, le, lower_number all b h base.1 home.is_declared base.2.is_concrete home.is_concrete)) rest)

  few : (h : ℕ) → IsConcrete all h → home_number all h ≤ length (schema all).homes
  few h home =
      let r = housed all h (concrete_among all h home) in
      omega (arith, r.1.has_number, homes_count all, slice_get_within (concrete_homes all) r.0 h r.1.at_place)

  -- what is on the line is descended from
  pub line_descends : (h g : ℕ) → IsConcrete all h → Line all h g → descends (schema all) (home_no all h) (home_no all g) ≡ true
  line_descends h g home line = descends_line (length (schema all).homes) h g home (few h home) line

  line_within : (n h g : ℕ) → IsConcrete all h → IsConcrete all g → descends_within n (schema all) (home_no all h) (home_no all g) ≡ true → Line all h g
  line_within zero h g home other on = absurd (cc)
  line_within (suc n) h g home other on =
      ⊎_elim (λ same. subst (λ (m : ℕ). Line all h m) (number_tells h g home other (eqb-true (home_number all h) (home_number all g) same)) (at_end h))
      (λ differ.
      by (base_home all h) refl (λ b is more. line_within n b g (base_parent h b home is).2 other more)
      (sym (ap (λ (v : Bool). v || given (base_of (schema all) (home_no all h)) false (λ b. descends_within n (schema all) b (home_no all g))) differ
      ∙ ap (λ (o : Option HomeNo). given o false (λ b. descends_within n (schema all) b (home_no all g))) (base_at h home)) ∙ on))
      (cases_Bool (home_number all h == home_number all g))
    where
      by : (o : Option ℕ) → base_home all h ≡ o → ((b : ℕ) → base_home all h ≡ Some b → descends_within n (schema all) (home_no all b) (home_no all g) ≡ true → Line all b g)
          → given (option_map (home_no all) o) false (λ b. descends_within n (schema all) b (home_no all g)) ≡ true → Line all h g
      by None e later on = absurd (cc)
      by (Some b) e later on = by_home h b g e (later b e on)

  -- what is descended from is on the line
  pub descends_is_line : (h g : ℕ) → IsConcrete all h → IsConcrete all g → descends (schema all) (home_no all h) (home_no all g) ≡ true → Line all h g
  descends_is_line h g home other on = line_within (suc (length (schema all).homes)) h g home other on
