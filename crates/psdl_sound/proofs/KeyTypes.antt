-- The members of a key in the layouts of homes that have it, in the schema of a text without a fault.
use Rattle.std.proofs.Common.{◌≡◌, ℕ, zero, suc, ◌+◌, ◌<◌, List, [], ◌∷◌, ◌++◌, length, map, get_or, Bool, true, false, cond, not, ◌||◌, inl, inr, Option, Some, None, refl, sym, ap, subst, ◌∙◌, ⊎_elim}
use Rattle.std.specs.List.{slice_get, flat_map, list_any, find}
use Rattle.std.specs.Option.{option_map, option_and_then}
use Rattle.std.proofs.lemmas.Bool.{or_parts, not-false}
use Rattle.std.proofs.lemmas.List.{map-append}
use Rattle.std.proofs.lemmas.List.Concat.{flat_map-append}
use Rattle.std.proofs.lemmas.Option.{slice_get-get_or}
use Rattle.std.proofs.lemmas.Slice.Eq.{bytes_eq-Decides}
use Rattle.psdl_tree.specs.declared.names.Identifier.{Identifier}
use Rattle.psdl_tree.specs.Trees.{Name, StateType, PlainState, Reference}
use Rattle.type_layout.specs.Keys.{may_be_keyed}
use Rattle.type_layout.specs.Schemas.{given, members_at, has_key}
use Rattle.type_layout.specs.Sound.{IsKeyMember}
use Rattle.type_layout.specs.Types.{PlainType, PlainMember, RefTo, Char}
use Rattle.psdl_directory.specs.declared.fault.CheckFault.{CheckFault}
use Rattle.psdl_directory.specs.declared.fault.CheckKind.TheVariants.{KeyMember, KeyType}
use Rattle.psdl_directory.specs.Declarations.{Declaration}
use Rattle.psdl_lineage.specs.Descent.{StateMember, ancestry, members_in, members, type_of_home, names_of, Listed}
use Rattle.psdl_directory.specs.Fault.{fault_if}
use Rattle.psdl_check.specs.Faults.{first_fault}
use Rattle.psdl_standings.specs.StateTypes.{state_type_by}
use Rattle.psdl_rules.specs.Layouts.{member_type, layout_member, layout}
use Rattle.psdl_directory.specs.Lookup.{lower, at, defined}
use Rattle.psdl_members.specs.Clashes.{members_clash}
use Rattle.psdl_rules.specs.Words.{is_called, same_name, listed_wrong}
use Rattle.psdl_rules.specs.Faults.KeyType.{is_compound, keyed_wrong}
use Rattle.psdl_directory.specs.Parts.{keys, key_list, states}
use Rattle.psdl_check.specs.Schemas.{Introduced, indexes, referents, home_layout, home_no, home_of, schema}
use Rattle.psdl_standings.specs.Standings.{Standing, standings, sight, plain_by, all_there}
use Rattle.psdl_sound.proofs.Among.{Among, at_among, among_from, among_flat, among_map, among_found, pair_unlike}
use Rattle.psdl_sound.proofs.Ancestors.{from_itself, same_some}
use Rattle.psdl_sound.proofs.BaseLines.{Line, IsConcrete, home_concrete, line_concrete, line_ancestry}
use Rattle.psdl_sound.proofs.Catalogs.{housed}
use Rattle.psdl_check.proofs.FaultlessTexts.{both_empty, does_not_hold, none_given, no_fault_at}
use Rattle.psdl_sound.proofs.Homes.{IsHome}
use Rattle.psdl_sound.proofs.KeyHolders.{introducer, key_on_line}
use Rattle.psdl_sound.proofs.KeyNames.{IsKey, not_type}
use Rattle.psdl_check.proofs.FewMembers.{each_there}
use Rattle.psdl_sound.proofs.Layouts.{members_differ, whole_type}
use Rattle.psdl_sound.proofs.MemberLists.{IsPlaceOf, place_told, index_told, IsKeyOf, key_told, HasType, key_has_type, ancestor_declared, members_of_number}
use Rattle.psdl_sound.proofs.Parents.{none_among}
use Rattle.psdl_sound.proofs.HomeTypes.{IsWhole, home_typed, type_declared, descent_further, home_conforms, type_concrete, begins_with}

-- ---- layouts of two parts

-- where all of two lists are there, so are those of each
both_there : {A : Type 0} (xs ys : List (Option A)) (zs : List A) → all_there (xs ++ ys) ≡ Some zs → (fs : List A) × (bs : List A) × (all_there xs ≡ Some fs) × (zs ≡ fs ++ bs)
both_there [] ys zs is = ([], zs, refl, refl)
both_there (None ∷ xs) ys zs is = absurd (cc)
both_there {A} (Some x ∷ xs) ys zs is = by (all_there (xs ++ ys)) (λ ws e. both_there xs ys ws e) refl is
  where
    by : (o : Option (List A)) → ((ws : List A) → all_there (xs ++ ys) ≡ Some ws → (fs : List A) × (bs : List A) × (all_there xs ≡ Some fs) × (ws ≡ fs ++ bs)) → all_there (xs ++ ys) ≡ o
        → option_map (λ others. x ∷ others) o ≡ Some zs → (fs : List A) × (bs : List A) × (all_there (Some x ∷ xs) ≡ Some fs) × (zs ≡ fs ++ bs)
    by None later e is = absurd (cc)
    by (Some ws) later e is =
        let r = later ws e in
        let same : x ∷ ws ≡ zs = same_some (x ∷ ws) zs is in
        (x ∷ r.0, r.1, ap (option_map (λ others. x ∷ others)) r.2, sym same ∙ ap (λ l. x ∷ l) r.3)

front_get : {A : Type 0} (xs ys : List A) (i : ℕ) (x : A) → slice_get xs i ≡ Some x → slice_get (xs ++ ys) i ≡ Some x
front_get [] ys i x is = absurd (cc)
front_get (z ∷ zs) ys zero x is = is
front_get (z ∷ zs) ys (suc i) x is = front_get zs ys i x is

-- ---- a member of a layout

-- a member of a layout is that of a state member
record IsMember (all : List Declaration) (s : StateMember) (m : PlainMember) : Type 0 where
  pub one_name : m.name ≡ s.name.name
  pub its_type : member_type all (standings all) (referents all) s ≡ Some m.type

member_told : (all : List Declaration) (s : StateMember) (m : PlainMember) → layout_member all (standings all) (referents all) s ≡ Some m → IsMember all s m
member_told all s m is = by (member_type all (standings all) (referents all) s) refl is
  where
    by : (o : Option PlainType) → member_type all (standings all) (referents all) s ≡ o → option_map (λ t. record { name = s.name.name; type = t; readonly = s.readonly }) o ≡ Some m → IsMember all s m
    by None e is = absurd (cc)
    by (Some t) e is =
        let made : PlainMember = record { name = s.name.name; type = t; readonly = s.readonly } in
        let same : made ≡ m = same_some made m is in
        record { one_name = ap (λ (x : PlainMember). x.name) (sym same); its_type = e ∙ ap (λ (x : PlainMember). Some x.type) same }

state_at : (all : List Declaration) (sms : List StateMember) (ms : List PlainMember) → map (layout_member all (standings all) (referents all)) sms ≡ map (λ m. Some m) ms
    → (p : ℕ) (m : PlainMember) → slice_get ms p ≡ Some m → (s : StateMember) × Among s sms × IsMember all s m
state_at all [] [] is p m at = absurd (cc)
state_at all [] (x ∷ ms) is p m at = absurd (cc)
state_at all (s ∷ sms) [] is p m at = absurd (cc)
state_at all (s ∷ sms) (x ∷ ms) is zero m at =
    let first : layout_member all (standings all) (referents all) s ≡ Some x = cc in
    (s, inl refl, member_told all s m (first ∙ at))
state_at all (s ∷ sms) (x ∷ ms) is (suc p) m at =
    let rest : map (layout_member all (standings all) (referents all)) sms ≡ map (λ m. Some m) ms = cc in
    let r = state_at all sms ms rest p m at in
    (r.0, inr r.1, r.2)

-- ---- what may be keyed

-- a member that is not compound may be keyed
not_compound : (all : List Declaration) (s : StateMember) (t : PlainType) → member_type all (standings all) (referents all) s ≡ Some t → is_compound all (standings all) s ≡ false → may_be_keyed t ≡ true
not_compound all s t is off = by s.state_type is off
  where
    names : Name → Standing
    names = sight all (standings all) (s.home + 1) (at all s.home).path

    plain : (o : Option PlainType) → o ≡ Some t → given o false (λ t. not (may_be_keyed t)) ≡ false → may_be_keyed t ≡ true
    plain None is off = absurd (cc)
    plain (Some u) is off = let same : u ≡ t = same_some u t is in ap may_be_keyed (sym same) ∙ not-false (may_be_keyed u) off

    reference : (o : Option ℕ) → option_map RefTo (option_map (referents all) o) ≡ Some t → given (option_map RefTo (option_map (λ _. []) o)) false (λ t. not (may_be_keyed t)) ≡ false → may_be_keyed t ≡ true
    reference None is off = absurd (cc)
    reference (Some u) is off = absurd (cc)

    by : (state : StateType) → state_type_by (sight all (standings all) (s.home + 1) (at all s.home).path) (λ name. option_map (referents all) (defined all s.home name)) state ≡ Some t
        → given (state_type_by (sight all (standings all) (s.home + 1) (at all s.home).path) (λ name. option_map (λ _. []) (defined all s.home name)) state) false (λ t. not (may_be_keyed t)) ≡ false
        → may_be_keyed t ≡ true
    by (PlainState tree) is off = plain (plain_by (sight all (standings all) (s.home + 1) (at all s.home).path) tree) is off
    by (Reference name) is off = reference (defined all s.home name) is off

-- ---- lists of keys

-- each of a list without a fault is called so
all_called : (ms : List StateMember) (earlier is : List Identifier) → listed_wrong KeyMember ms earlier is ≡ [] → (i : Identifier) → Among i is → list_any (is_called i) ms ≡ true
all_called ms earlier [] none i a = absurd a
all_called ms earlier (x ∷ xs) none i a = by a (λ b. all_called ms (x ∷ earlier) xs both.1 i b)
  where
    both : (fault_if (not (list_any (is_called x) ms) || list_any (same_name x) earlier) KeyMember x.place ≡ []) × (listed_wrong KeyMember ms (x ∷ earlier) xs ≡ [])
    both = both_empty (fault_if (not (list_any (is_called x) ms) || list_any (same_name x) earlier) KeyMember x.place) (listed_wrong KeyMember ms (x ∷ earlier) xs) none

    by : Among i (x ∷ xs) → (Among i xs → list_any (is_called i) ms ≡ true) → list_any (is_called i) ms ≡ true
    by (inl e) later =
        let off = or_parts (not (list_any (is_called x) ms)) (list_any (same_name x) earlier) (does_not_hold (not (list_any (is_called x) ms) || list_any (same_name x) earlier) KeyMember x.place both.0) in
        ap (λ (y : Identifier). list_any (is_called y) ms) (sym e) ∙ not-false (list_any (is_called x) ms) off.0
    by (inr b) later = later b

find_any : {X : Type 0} (test : X → Bool) (xs : List X) → list_any test xs ≡ true → (x : X) × (find test xs ≡ Some x)
find_any test [] on = absurd (cc)
find_any {X} test (z ∷ zs) on = by (test z) (λ e. find_any test zs e) on
  where
    by : (b : Bool) → (list_any test zs ≡ true → (x : X) × (find test zs ≡ Some x)) → b || list_any test zs ≡ true → (x : X) × (cond b (Some z) (find test zs) ≡ Some x)
    by true later on = (z, refl)
    by false later on = later on

-- no two members of a type have one name
one_member : (all : List Declaration) → first_fault all ≡ None → (g t : ℕ) → type_of_home all g ≡ Some t → (x y : StateMember) → Among x (members all t) → Among y (members all t) → x.name.name ≡ y.name.name → x ≡ y
one_member all none g t is x y a b e =
    let clash : members_clash x y ≡ true = (bytes_eq-Decides (lower x.name.name) (lower y.name.name)).1 (ap lower e) in
    let turned : members_clash y x ≡ true = (bytes_eq-Decides (lower y.name.name) (lower x.name.name)).1 (ap lower (sym e)) in
    ⊎_elim (λ s. s)
    (λ o. ⊎_elim (λ off. let both : true ≡ false = sym clash ∙ off in absurd (cc)) (λ off. let both : true ≡ false = sym turned ∙ off in absurd (cc)) o)
    (pair_unlike members_clash (members all t) (members_differ all t (whole_type all none g t is)) x y a b)

module _ (all : List Declaration) (none : first_fault all ≡ None) where
  -- a concrete home is whole
  pub concrete_whole : (h : ℕ) → IsConcrete all h → IsWhole all none h
  concrete_whole h home = let p = not_type (at all h).what home.is_concrete in record { is_declared = home.is_declared; is_one = p.2; is_defined = p.0 }

  -- the members of a type that another conforms to are its own
  members_too : (t u : ℕ) (s : StateMember) → t < length all → Among u (ancestry all t) → Among s (members all u) → Among s (members all t)
  members_too t u s lt there a =
      let f : ℕ → List StateMember = λ a. flat_map (members_in a) (states (at all a).what) in
      let r = among_from f (ancestry all u) s a in
      among_flat f (ancestry all t) r.0 s (descent_further all none t u r.0 lt there r.1) r.2

  -- what a key of a home lists may be keyed
  listed_plain : (g t : ℕ) → IsConcrete all g → type_of_home all g ≡ Some t → (k : Listed) → IsKeyOf all g k → (word : List ℕ) → Among word k.members
      → (s : StateMember) → Among s (members all t) → word ≡ s.name.name → is_compound all (standings all) s ≡ false
  listed_plain g t home of k key word a s there named =
      let owner : ℕ = key.owner in
      let inside : owner < length all = ancestor_declared all g owner home.is_declared key.is_ancestor in
      let has : HasType all owner KeyMember (key_list key.key) = key_has_type all none owner inside key.key key.is_owned in
      let ms : List StateMember = members all has.home_type in
      let own : Among word (names_of (key_list key.key)) = subst (λ (l : Listed). Among word l.members) (sym key.one_list) a in
      let id = among_map (λ (i : Identifier). i.name) (key_list key.key) word own in
      let found = find_any (is_called id.0) ms (all_called ms [] (key_list key.key) has.none_wrong id.0 id.1) in
      let called = among_found (is_called id.0) ms found.0 found.1 in
      let wrong : List StateMember → List CheckFault = λ ms. flat_map (λ k. flat_map (keyed_wrong all (standings all) ms) (key_list k)) (keys (at all owner).what) in
      let off : wrong ms ≡ [] = none_given (type_of_home all owner) (λ t. wrong (members all t)) (no_fault_at all none owner inside).no_key_types has.home_type has.is_type in
      let of_key : flat_map (keyed_wrong all (standings all) ms) (key_list key.key) ≡ [] = none_among (λ k. flat_map (keyed_wrong all (standings all) ms) (key_list k)) (keys (at all owner).what) off key.key key.is_owned in
      let of_id : keyed_wrong all (standings all) ms id.0 ≡ [] = none_among (keyed_wrong all (standings all) ms) (key_list key.key) of_key id.0 id.1 in
      let plain : is_compound all (standings all) found.0 ≡ false =
      does_not_hold (is_compound all (standings all) found.0) KeyType id.0.place (none_given (find (is_called id.0) ms) (λ m. fault_if (is_compound all (standings all) m) KeyType id.0.place) of_id found.0 found.1) in
      let conforming : Among has.home_type (ancestry all t) = home_conforms all none g owner t has.home_type (concrete_whole g home) key.is_ancestor of has.is_type in
      let too : Among found.0 (members all t) = members_too t has.home_type found.0 (type_declared all none g t of).0 conforming called.0 in
      let name : found.0.name.name ≡ s.name.name = sym ((bytes_eq-Decides id.0.name found.0.name.name).0 called.1) ∙ id.2 ∙ named in
      ap (is_compound all (standings all)) (sym (one_member all none g t of found.0 s too there name)) ∙ plain

  -- ---- layouts along a line

  -- the layout of a home is there
  pub record IsLaid (h : ℕ) : Type 0 where
    pub home_type : ℕ
    pub layout_members : List PlainMember
    pub is_type : type_of_home all h ≡ Some home_type
    pub is_layout : layout all (standings all) (referents all) home_type ≡ Some layout_members

  pub laid_is : (h : ℕ) (laid : IsLaid h) → home_layout all (standings all) h ≡ laid.layout_members
  laid_is h laid =
      ap (λ (o : Option ℕ). given (option_and_then (layout all (standings all) (referents all)) o) [] (λ ms. ms)) laid.is_type
      ∙ ap (λ (o : Option (List PlainMember)). given o [] (λ ms. ms)) laid.is_layout

  -- the layout of a home begins with those of its line
  pub line_layout : (h g : ℕ) → IsConcrete all h → Line all h g → (laid : IsLaid h) → (base : IsLaid g) × (more : List PlainMember) × (laid.layout_members ≡ base.layout_members ++ more)
  line_layout h g home line laid =
      let other : IsConcrete all g = line_concrete all none h g home line in
      let whole : IsWhole all none h = concrete_whole h home in
      let type = home_typed all none g (concrete_whole g other) in
      let t : ℕ = laid.home_type in
      let u : ℕ = type.0 in
      let there : Among g (ancestry all h) = line_ancestry all none h g g home line (from_itself all none g other.is_declared) in
      let conforming : Among u (ancestry all t) = home_conforms all none h g t u whole there laid.is_type type.1 in
      let begins = begins_with all none t u (type_declared all none h t laid.is_type).0 (type_concrete all none h t home whole laid.is_type) (type_concrete all none g u other (concrete_whole g other) type.1) conforming in
      let f : ℕ → List StateMember = λ a. flat_map (members_in a) (states (at all a).what) in
      let lm : StateMember → Option PlainMember = layout_member all (standings all) (referents all) in
      let parts : map lm (members all t) ≡ map lm (members all u) ++ map lm (flat_map f begins.0) =
      ap (λ (l : List ℕ). map lm (flat_map f l)) begins.1 ∙ ap (map lm) (flat_map-append f (ancestry all u) begins.0) ∙ map-append lm (members all u) (flat_map f begins.0) in
      let split = both_there (map lm (members all u)) (map lm (flat_map f begins.0)) laid.layout_members (ap all_there (sym parts) ∙ laid.is_layout) in
      (record { home_type = u; layout_members = split.0; is_type = type.1; is_layout = split.2 }, split.1, split.3)

  -- a key's members are the same in its home and in one that has it, and may be keyed
  pub key_member : (n : ℕ) (i : Introduced) → IsKey all n i → (k h : ℕ) → IsHome all k h → IsLaid h → has_key (home_of all (standings all) h) (record { 0 = n }) ≡ true
      → (j p : ℕ) → slice_get (indexes (home_layout all (standings all) i.home) i.listed.members) j ≡ Some p
      → (m : PlainMember) × (slice_get (members_at (schema all) (home_no all i.home)) p ≡ Some m) × (slice_get (home_layout all (standings all) h) p ≡ Some m) × (may_be_keyed m.type ≡ true)
  key_member n i key k h home laid on j p is =
      let g : ℕ = i.home in
      let concrete : IsConcrete all h = home_concrete all k h home in
      let line : Line all h g = key_on_line all none n i key h concrete on in
      let r = line_layout h g concrete line laid in
      let ms : List PlainMember = r.0.layout_members in
      let own : home_layout all (standings all) g ≡ ms = laid_is g r.0 in
      let at_g = housed all g key.is_home in
      let whole : members_at (schema all) (home_no all g) ≡ ms = members_of_number all g at_g.0 at_g.1 ∙ own in
      let further : home_layout all (standings all) h ≡ ms ++ r.1 = laid_is h laid ∙ r.2 in
      let index : slice_get (indexes ms i.listed.members) j ≡ Some p = ap (λ (l : List PlainMember). slice_get (indexes l i.listed.members) j) (sym own) ∙ is in
      let word = index_told ms i.listed.members p (at_among (indexes ms i.listed.members) j p index) in
      let place : IsPlaceOf ms word.0 p = place_told ms word.0 p word.2 in
      let d : PlainMember = record { name = []; type = Char; readonly = false } in
      let m : PlainMember = get_or ms p d in
      let there : slice_get ms p ≡ Some m = slice_get-get_or ms p d place.is_there in
      let state = state_at all (members all r.0.home_type) ms (each_there (map (layout_member all (standings all) (referents all)) (members all r.0.home_type)) ms r.0.is_layout) p m there in
      let plain : is_compound all (standings all) state.0 ≡ false =
      listed_plain g r.0.home_type (introducer all none n i key) r.0.is_type i.listed (key_told all g i.listed key.is_listed) word.0 word.1 state.0 state.1 (place.one_name d ∙ state.2.one_name) in
      (m, ap (λ (l : List PlainMember). slice_get l p) whole ∙ there, ap (λ (l : List PlainMember). slice_get l p) further ∙ front_get ms r.1 p m there, not_compound all state.0 m.type state.2.its_type plain)

  -- so they have one type
  pub key_types : (n : ℕ) (i : Introduced) → IsKey all n i → (k h : ℕ) → IsHome all k h → IsLaid h → has_key (home_of all (standings all) h) (record { 0 = n }) ≡ true
      → (j p : ℕ) → slice_get (indexes (home_layout all (standings all) i.home) i.listed.members) j ≡ Some p → IsKeyMember (members_at (schema all) (home_no all i.home)) (home_layout all (standings all) h) p
  key_types n i key k h home laid on j p is = let r = key_member n i key k h home laid on j p is in (r.0, r.0, r.1, r.2, refl, r.3)
