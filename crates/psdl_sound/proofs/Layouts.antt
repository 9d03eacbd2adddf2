-- The layouts of homes in the schema of a text without a fault: how many members, and their names.
use Rattle.std.proofs.Common.{◌≡◌, ℕ, ◌≤◌, List, [], ◌∷◌, length, map, Bool, true, false, cond, not, ◌&&◌, Option, Some, None, refl, sym, ap, ◌∙◌, ⊎_elim}
use Rattle.std.specs.List.{list_any}
use Rattle.std.specs.Option.{option_map}
use Rattle.std.specs.Str.{bytes_eq}
use Rattle.std.proofs.lemmas.Bool.{and_from, and_parts, or_parts, or_from, not-true, cases_Bool}
use Rattle.std.proofs.lemmas.Slice.Eq.{bytes_eq-Decides}
use Rattle.type_layout.specs.Sound.{are_distinct}
use Rattle.type_layout.specs.Types.{PlainType, PlainMember}
use Rattle.type_layout.specs.declared.home.HomeNo.{HomeNo}
use Rattle.psdl_directory.specs.declared.fault.CheckKind.TheVariants.{MemberClash}
use Rattle.psdl_directory.specs.Declarations.{Declaration}
use Rattle.psdl_lineage.specs.Descent.{StateMember, members, type_of_home}
use Rattle.psdl_check.specs.Faults.{first_fault}
use Rattle.psdl_rules.specs.Layouts.{member_type, layout_member}
use Rattle.psdl_rules.specs.Faults.Limit.{most_members}
use Rattle.psdl_directory.specs.Lookup.{lower, at}
use Rattle.psdl_members.specs.Clashes.{members_clash, has_clash}
use Rattle.psdl_directory.specs.Parts.{is_forward, is_storage_type}
use Rattle.psdl_check.specs.Schemas.{home_layout, referents}
use Rattle.psdl_standings.specs.Standings.{Standing, standings}
use Rattle.psdl_check.proofs.FaultlessTexts.{does_not_hold, none_of_all}
use Rattle.psdl_check.proofs.FewMembers.{each_there, each_layout, IsWholeType, whole_type as whole_of_text, few_members as few_of_text}

-- ---- how many members

-- the type of each home is a whole storage type
pub whole_type : (all : List Declaration) → first_fault all ≡ None → (n t : ℕ) → type_of_home all n ≡ Some t → IsWholeType all t
whole_type all none n t is = whole_of_text all (none_of_all all none).0 n t is

-- a home has at most 255 members
pub few_members : (all : List Declaration) → first_fault all ≡ None → (n : ℕ) → length (home_layout all (standings all) n) ≤ most_members
few_members all none n = few_of_text all (none_of_all all none).0 n

-- ---- their names

abbrev name_of : StateMember → List ℕ
name_of m = m.name.name

one_name : (all : List Declaration) (done : List Standing) (homes : ℕ → List HomeNo) (m : StateMember) (p : PlainMember) → layout_member all done homes m ≡ Some p → p.name ≡ name_of m
one_name all done homes m p is = by (member_type all done homes m) is
  where
    by : (o : Option PlainType) → option_map (λ t. record { name = m.name.name; type = t; readonly = m.readonly }) o ≡ Some p → p.name ≡ name_of m
    by None is = absurd (cc)
    by (Some t) is = let made : PlainMember = record { name = m.name.name; type = t; readonly = m.readonly } in let same : made ≡ p = cc in ap (λ (x : PlainMember). x.name) (sym same)

names_are : (all : List Declaration) (done : List Standing) (homes : ℕ → List HomeNo) (sms : List StateMember) (ms : List PlainMember) → map (layout_member all done homes) sms ≡ map (λ m. Some m) ms → map (λ m. m.name) ms ≡ map name_of sms
names_are all done homes [] [] is = refl
names_are all done homes [] (m ∷ ms) is = absurd (cc)
names_are all done homes (s ∷ sms) [] is = absurd (cc)
names_are all done homes (s ∷ sms) (m ∷ ms) is =
    let first : layout_member all done homes s ≡ Some m = cc in
    let rest : map (layout_member all done homes) sms ≡ map (λ m. Some m) ms = cc in
    ap (λ (n : List ℕ). n ∷ map (λ (x : PlainMember). x.name) ms) (one_name all done homes s m first) ∙ ap (λ (l : List (List ℕ)). name_of s ∷ l) (names_are all done homes sms ms rest)

-- names that differ but for case differ
other_name : (a b : StateMember) → members_clash a b ≡ false → bytes_eq (name_of a) (name_of b) ≡ false
other_name a b e =
    ⊎_elim
    (λ same.
    let low : lower (name_of a) ≡ lower (name_of b) = ap lower ((bytes_eq-Decides (name_of a) (name_of b)).0 same) in
    let clash : members_clash a b ≡ true = (bytes_eq-Decides (lower (name_of a)) (lower (name_of b))).1 low in
    let both : true ≡ false = sym clash ∙ e in
    absurd (cc))
    (λ differ. differ)
    (cases_Bool (bytes_eq (name_of a) (name_of b)))

none_alike : (a : StateMember) (sms : List StateMember) → list_any (members_clash a) sms ≡ false → list_any (bytes_eq (name_of a)) (map name_of sms) ≡ false
none_alike a [] e = refl
none_alike a (s ∷ sms) e =
    let p = or_parts (members_clash a s) (list_any (members_clash a) sms) e in
    or_from (bytes_eq (name_of a) (name_of s)) (list_any (bytes_eq (name_of a)) (map name_of sms)) (other_name a s p.0) (none_alike a sms p.1)

names_differ : (sms : List StateMember) → are_distinct members_clash sms ≡ true → are_distinct bytes_eq (map name_of sms) ≡ true
names_differ [] e = refl
names_differ (s ∷ sms) e =
    let p = and_parts (not (list_any (members_clash s) sms)) (are_distinct members_clash sms) e in
    let none : list_any (bytes_eq (name_of s)) (map name_of sms) ≡ false = none_alike s sms (not-true (list_any (members_clash s) sms) p.0) in
    and_from (not (list_any (bytes_eq (name_of s)) (map name_of sms))) (are_distinct bytes_eq (map name_of sms)) (ap not none) (names_differ sms p.1)

no_clash : (a f d : Bool) (x : Bool) → a ≡ true → f ≡ false → not f && cond a (not d) x ≡ false → d ≡ true
no_clash true false true x p q e = refl
no_clash true false false x p q e = absurd (cc)
no_clash true true d x p q e = absurd (cc)
no_clash false f d x p q e = absurd (cc)

-- no two members of a type clash
pub members_differ : (all : List Declaration) (t : ℕ) → IsWholeType all t → are_distinct members_clash (members all t) ≡ true
members_differ all t whole =
    no_clash (is_storage_type (at all t).what) (is_forward (at all t).what) (are_distinct members_clash (members all t)) _ whole.is_storage whole.is_whole
    (does_not_hold (not (is_forward (at all t).what) && has_clash all t (at all t).what) MemberClash (at all t).place whole.has_none.no_clash)

-- no two members of a home have one name
pub member_names : (all : List Declaration) → first_fault all ≡ None → (n : ℕ) → are_distinct bytes_eq (map (λ m. m.name) (home_layout all (standings all) n)) ≡ true
member_names all none n =
    each_layout all n (λ ms. are_distinct bytes_eq (map (λ (m : PlainMember). m.name) ms) ≡ true) refl
    (λ t ms has.
    let same = names_are all (standings all) (referents all) (members all t) ms (each_there (map (layout_member all (standings all) (referents all)) (members all t)) ms has.is_layout) in
    ap (λ (l : List (List ℕ)). are_distinct bytes_eq l) same ∙ names_differ (members all t) (members_differ all t (whole_type all none n t has.is_type)))
