-- The names of keys and factories of homes in the schema of a text without a fault, and the numbers of keys.
use Rattle.std.proofs.Common.{◌≡◌, ℕ, ◌+◌, ◌<◌, List, [], ◌∷◌, length, map, filter, get_or, Bool, true, false, cond, not, ◌&&◌, ◌||◌, Option, Some, None, IsTrue, refl, sym, ap, subst, ◌∙◌, arith, ⊎_elim}
use Rattle.std.specs.Prelude.{nat_le}
use Rattle.std.specs.List.{slice_get, flat_map, list_any, list_all}
use Rattle.std.specs.Option.{option_map, option_to_list}
use Rattle.std.specs.Str.{bytes_eq}
use Rattle.std.proofs.lemmas.Bool.{and_parts, and_from, le-leb, not-true}
use Rattle.std.proofs.lemmas.List.{length-map}
use Rattle.std.proofs.lemmas.Option.{slice_get-map, slice_get-get_or}
use Rattle.std.proofs.lemmas.Slice.Eq.{bytes_eq-Decides}
use Rattle.type_layout.specs.declared.key.Key.{Key}
use Rattle.type_layout.specs.declared.key.KeyNo.{KeyNo}
use Rattle.type_layout.specs.declared.schema.Factory.{Factory}
use Rattle.type_layout.specs.Schemas.{given, key_at}
use Rattle.type_layout.specs.Sound.{EachKey, are_distinct, key_name}
use Rattle.type_layout.specs.Types.{PlainMember}
use Rattle.psdl_directory.specs.declared.fault.CheckKind.TheVariants.{MemberClash}
use Rattle.psdl_directory.specs.Declarations.{What, IsModule, IsConstant, IsAlias, IsStruct, IsEnumeration, IsEnumerator, IsAbstractType, IsConcreteType, IsAbstractHome, IsConcreteHome, IsCatalog, Declaration}
use Rattle.psdl_lineage.specs.Descent.{has, ancestry, concrete_homes, base_home, Listed, same_listed, listed_key, listed_factory, home_keys, home_factories}
use Rattle.psdl_check.specs.Faults.{first_fault}
use Rattle.psdl_directory.specs.Lookup.{lower, at}
use Rattle.psdl_members.specs.Clashes.{lists_clash, has_clash}
use Rattle.psdl_directory.specs.Parts.{is_forward, is_storage_type, is_home, is_concrete_home, keys, factories}
use Rattle.psdl_check.specs.Schemas.{Introduced, introduced, all_introduced, key_number, key_numbers, key_of, factory_of, home_layout, schema}
use Rattle.psdl_standings.specs.Standings.{standings}
use Rattle.psdl_check.proofs.KeyIding.{listed_is, listed_itself}
use Rattle.psdl_lineage.proofs.Foremost.{first_passes}
use Rattle.psdl_sound.proofs.Among.{Among, at_among, among_from, among_map, among_chosen, among_some, all_among, Differ, differ_flat, differ_map, differ_option, distinct_told, pair_unlike, once_differ}
use Rattle.psdl_check.proofs.FaultlessTexts.{does_not_hold, no_fault_at}
use Rattle.psdl_sound.proofs.Homes.{IsHome}
use Rattle.psdl_check.proofs.Meanings.{position_within}

-- ---- lists with names

-- of two with one name that do not clash the one is the other
one_named : (x y : Listed) → lists_clash x y ≡ false → x.name ≡ y.name → x ≡ y
one_named x y off e =
    let alike : bytes_eq (lower x.name) (lower y.name) ≡ true = (bytes_eq-Decides (lower x.name) (lower y.name)).1 (ap lower e) in
    let list : same_listed x y ≡ true = and_from (bytes_eq x.name y.name) _ ((bytes_eq-Decides x.name y.name).1 e) (by (bytes_eq (lower x.name) (lower y.name)) _ alike off) in
    listed_is x y list
  where
    by : (a b : Bool) → a ≡ true → a && not b ≡ false → b ≡ true
    by true true p q = refl
    by true false p q = absurd (cc)
    by false b p q = absurd (cc)

-- where none clash, the names tell
names_tell : (ks : List Listed) → are_distinct lists_clash ks ≡ true → (x y : Listed) → Among x ks → Among y ks → x.name ≡ y.name → x ≡ y
names_tell ks d x y a b e =
    ⊎_elim (λ s. s) (λ o. ⊎_elim (λ off. one_named x y off e) (λ off. sym (one_named y x off (sym e))) o) (pair_unlike lists_clash ks d x y a b)

-- ---- the keys and factories of a home

-- what a concrete home is not
pub not_type : (what : What) → is_concrete_home what ≡ true → (is_forward what ≡ false) × (is_storage_type what ≡ false) × (is_home what ≡ true)
not_type (IsConcreteHome home) is = (refl, refl, refl)
not_type IsModule is = absurd (cc)
not_type (IsConstant constant) is = absurd (cc)
not_type (IsAlias before spec dimensions) is = absurd (cc)
not_type (IsStruct struct) is = absurd (cc)
not_type (IsEnumeration enumerators) is = absurd (cc)
not_type IsEnumerator is = absurd (cc)
not_type (IsAbstractType body) is = absurd (cc)
not_type (IsConcreteType body) is = absurd (cc)
not_type (IsAbstractHome body) is = absurd (cc)
not_type (IsCatalog provisions) is = absurd (cc)

none_clash : (f s h a b x : Bool) → f ≡ false → s ≡ false → h ≡ true → not f && cond s x (h && (not a || not b)) ≡ false → (a ≡ true) × (b ≡ true)
none_clash false false true true true x p q r e = (refl, refl)
none_clash false false true true false x p q r e = absurd (cc)
none_clash false false true false b x p q r e = absurd (cc)
none_clash true s h a b x p q r e = absurd (cc)
none_clash false true h a b x p q r e = absurd (cc)
none_clash false false false a b x p q r e = absurd (cc)

-- a home has no two keys and no two factories that clash
lists_differ : (all : List Declaration) → first_fault all ≡ None → (k n : ℕ) → IsHome all k n → (are_distinct lists_clash (home_keys all n) ≡ true) × (are_distinct lists_clash (home_factories all n) ≡ true)
lists_differ all none k n home =
    let what = (at all n).what in
    let p = not_type what home.is_concrete in
    none_clash (is_forward what) (is_storage_type what) (is_home what) (are_distinct lists_clash (home_keys all n)) (are_distinct lists_clash (home_factories all n)) _ p.0 p.1 p.2
    (does_not_hold (not (is_forward what) && has_clash all n what) MemberClash (at all n).place (no_fault_at all none n home.is_declared).no_clash)

-- none of its keys comes twice
pub keys_once : (all : List Declaration) (n : ℕ) → Differ (home_keys all n)
keys_once all n = once_differ same_listed (λ k. listed_itself k k refl) (flat_map (λ a. map listed_key (keys (at all a).what)) (ancestry all n))

factories_once : (all : List Declaration) (n : ℕ) → Differ (home_factories all n)
factories_once all n = once_differ same_listed (λ k. listed_itself k k refl) (flat_map (λ a. map listed_factory (factories (at all a).what)) (ancestry all n))

-- a list of its own elements
pub same_id : {A : Type 0} (xs : List A) → map (λ x. x) xs ≡ xs
same_id [] = refl
same_id (x ∷ xs) = ap (λ l. x ∷ l) (same_id xs)

names_distinct : (xs : List (List ℕ)) → Differ xs → are_distinct bytes_eq xs ≡ true
names_distinct xs d = distinct_told (λ x. x) bytes_eq (λ x y h. (bytes_eq-Decides x y).0 h) xs (subst (λ (l : List (List ℕ)). Differ l) (sym (same_id xs)) d)

-- no two factories of a home have one name
pub factory_names : (all : List Declaration) → first_fault all ≡ None → (k n : ℕ) → IsHome all k n → are_distinct bytes_eq (map (λ (f : Factory). f.name) (map (factory_of (home_layout all (standings all) n)) (home_factories all n))) ≡ true
factory_names all none k n home =
    let fs : List Listed = home_factories all n in
    let name : Listed → List ℕ = λ f. f.name in
    ap (are_distinct bytes_eq) (again (home_layout all (standings all) n) fs)
    ∙ names_distinct (map name fs) (differ_map name fs (factories_once all n) (names_tell fs (lists_differ all none k n home).1))
  where
    again : (ms : List PlainMember) (fs : List Listed) → map (λ (f : Factory). f.name) (map (factory_of ms) fs) ≡ map (λ (f : Listed). f.name) fs
    again ms [] = refl
    again ms (f ∷ fs) = ap (λ (l : List (List ℕ)). f.name ∷ l) (again ms fs)

-- ---- keys by number

-- the keys of the schema are those that homes introduce
keys_of : (all : List Declaration) → (schema all).keys ≡ map (key_of all (standings all)) (all_introduced all)
unfolding schema
keys_of all = refl

-- an introduced key of a home, by its number
pub record IsKey (all : List Declaration) (n : ℕ) (i : Introduced) : Type 0 where
  pub at_place : slice_get (all_introduced all) n ≡ Some i
  pub is_home : Among i.home (concrete_homes all)
  pub is_listed : Among i.listed (home_keys all i.home)
  pub is_new : list_any (same_listed i.listed) (given (base_home all i.home) [] (home_keys all)) ≡ false

-- what stands among the keys is one
pub is_key : (all : List Declaration) (n : ℕ) (i : Introduced) → slice_get (all_introduced all) n ≡ Some i → IsKey all n i
is_key all n i is =
    let r = among_from (introduced all) (concrete_homes all) i (at_among (all_introduced all) n i is) in
    let h : ℕ = r.0 in
    let test : Listed → Bool = λ k. not (list_any (same_listed k) (given (base_home all h) [] (home_keys all))) in
    let made : Listed → Introduced = λ k. record { home = h; listed = k } in
    let s = among_map made (filter test (home_keys all h)) i r.2 in
    let c = among_chosen test (home_keys all h) s.0 s.1 in
    let home : h ≡ i.home = ap (λ (x : Introduced). x.home) s.2 in
    let list : s.0 ≡ i.listed = ap (λ (x : Introduced). x.listed) s.2 in
    record {
      at_place = is;
      is_home = subst (λ (m : ℕ). Among m (concrete_homes all)) home r.1;
      is_listed = subst (λ (m : ℕ). Among i.listed (home_keys all m)) home (subst (λ (k : Listed). Among k (home_keys all h)) list c.0);
      is_new = subst (λ (m : ℕ). list_any (same_listed i.listed) (given (base_home all m) [] (home_keys all)) ≡ false) home
          (subst (λ (k : Listed). list_any (same_listed k) (given (base_home all h) [] (home_keys all)) ≡ false) list (not-true _ c.1));
    }

-- the key with a number of the schema
pub key_at_number : (all : List Declaration) (n : ℕ) (i : Introduced) → slice_get (all_introduced all) n ≡ Some i → key_at (schema all) (record { 0 = n }) ≡ Some (key_of all (standings all) i)
key_at_number all n i is =
    ap (λ (l : List Key). slice_get l n) (keys_of all) ∙ slice_get-map (key_of all (standings all)) (all_introduced all) n ∙ ap (option_map (key_of all (standings all))) is

-- what holds of each introduced key holds of each key of the schema
pub each_key : (all : List Declaration) (P : KeyNo → Key → Type 0) → ((n : ℕ) (i : Introduced) → IsKey all n i → P (record { 0 = n }) (key_of all (standings all) i)) → EachKey (schema all) P
each_key all P f k key is = by (slice_get (all_introduced all) k.0) refl
  where
    by : (o : Option Introduced) → slice_get (all_introduced all) k.0 ≡ o → P k key
    by None e =
        let none : None ≡ Some key = sym (ap (λ (l : List Key). slice_get l k.0) (keys_of all) ∙ slice_get-map (key_of all (standings all)) (all_introduced all) k.0 ∙ ap (option_map (key_of all (standings all))) e) ∙ is in
        absurd (cc)
    by (Some i) e =
        let both : Some (key_of all (standings all) i) ≡ Some key = sym (key_at_number all k.0 i e) ∙ is in
        let same : key_of all (standings all) i ≡ key = cc in
        subst (λ (x : Key). P k x) same (f k.0 i (is_key all k.0 i e))

-- the number of a home's key is that of a key with its name and list, of a home that the home descends from
pub record IsNumber (all : List Declaration) (h : ℕ) (k : Listed) (n : ℕ) : Type 0 where
  pub found : Introduced
  pub at_place : slice_get (all_introduced all) n ≡ Some found
  pub is_declared : n < length (all_introduced all)
  pub in_line : has (ancestry all h) found.home ≡ true
  pub one_list : found.listed ≡ k

-- what is found as the number of a key is one
pub number_told : (all : List Declaration) (h : ℕ) (k : Listed) (n : ℕ) → key_number all h k ≡ Some n → IsNumber all h k n
number_told all h k n is =
    let test : Introduced → Bool = λ i. has (ancestry all h) i.home && same_listed k i.listed in
    let none : Introduced = record { home = 0; listed = record { name = []; members = [] } } in
    let lt : n < length (all_introduced all) = omega (arith, position_within test 0 (all_introduced all) n is) in
    let found : Introduced = get_or (all_introduced all) n none in
    let both = and_parts (has (ancestry all h) found.home) (same_listed k found.listed) (first_passes test (all_introduced all) n none lt is) in
    record {
      found = found;
      at_place = slice_get-get_or (all_introduced all) n none lt;
      is_declared = lt;
      in_line = both.0;
      one_list = sym (listed_is k found.listed both.1);
    }

-- the key of a home with a number
pub numbered_key : (all : List Declaration) (h : ℕ) (number : KeyNo) → Among number (key_numbers all h) → (k : Listed) × Among k (home_keys all h) × (key_number all h k ≡ Some number.0)
numbered_key all h number a =
    let made : ℕ → KeyNo = λ n. record { 0 = n } in
    let r = among_map made (flat_map (λ k. option_to_list (key_number all h k)) (home_keys all h)) number a in
    let s = among_from (λ k. option_to_list (key_number all h k)) (home_keys all h) r.0 r.1 in
    let same : r.0 ≡ number.0 = ap (λ (x : KeyNo). x.0) r.2 in
    (s.0, s.1, among_some (key_number all h s.0) r.0 s.2 ∙ ap (λ n. Some n) same)

-- each key of a home is there
pub keys_there : (all : List Declaration) (n : ℕ) → IsTrue (list_all (λ k. nat_le (k.0 + 1) (length (schema all).keys)) (key_numbers all n))
keys_there all n =
    all_among (λ (number : KeyNo). nat_le (number.0 + 1) (length (schema all).keys)) (key_numbers all n)
    (λ number a.
    let r = numbered_key all n number a in
    let told = number_told all n r.0 number.0 r.2 in
    le-leb (number.0 + 1) (length (schema all).keys)
    (omega (arith, told.is_declared, ap (λ (l : List Key). length l) (keys_of all), length-map (all_introduced all) (key_of all (standings all)))))

name_is : (all : List Declaration) (h : ℕ) (k : Listed) (number : KeyNo) → key_number all h k ≡ Some number.0 → key_name (schema all) number ≡ k.name
name_is all h k number is =
    let told = number_told all h k number.0 is in
    ap (λ (o : Option Key). given o [] (λ key. key.name)) (key_at_number all number.0 told.found told.at_place) ∙ ap (λ (l : Listed). l.name) told.one_list

-- no key of a home comes twice
pub numbers_once : (all : List Declaration) (h : ℕ) → Differ (key_numbers all h)
numbers_once all h =
    let f : Listed → List ℕ = λ k. option_to_list (key_number all h k) in
    let made : ℕ → KeyNo = λ n. record { 0 = n } in
    differ_map made (flat_map f (home_keys all h))
    (differ_flat f (home_keys all h) (keys_once all h) (λ k a. differ_option (key_number all h k))
    (λ k l n a b u v.
    let one = number_told all h k n (among_some (key_number all h k) n u) in
    let two = number_told all h l n (among_some (key_number all h l) n v) in
    let both : Some one.found ≡ Some two.found = sym one.at_place ∙ two.at_place in
    let same : one.found ≡ two.found = cc in
    sym one.one_list ∙ ap (λ (i : Introduced). i.listed) same ∙ two.one_list))
    (λ n m a b e. ap (λ (x : KeyNo). x.0) e)

-- no two keys of a home have one name
pub key_names : (all : List Declaration) → first_fault all ≡ None → (k n : ℕ) → IsHome all k n → are_distinct bytes_eq (map (key_name (schema all)) (key_numbers all n)) ≡ true
key_names all none k n home =
    names_distinct (map (key_name (schema all)) (key_numbers all n))
    (differ_map (key_name (schema all)) (key_numbers all n) (numbers_once all n)
    (λ x y a b e.
    let r = numbered_key all n x a in
    let s = numbered_key all n y b in
    let same : r.0 ≡ s.0 =
    names_tell (home_keys all n) (lists_differ all none k n home).0 r.0 s.0 r.1 s.1 (sym (name_is all n r.0 x r.2) ∙ e ∙ name_is all n s.0 y s.2) in
    let both : Some x.0 ≡ Some y.0 = sym r.2 ∙ ap (key_number all n) same ∙ s.2 in
    let number : x.0 ≡ y.0 = cc in
    ap (λ (m : ℕ). record { 0 = m }) number))
