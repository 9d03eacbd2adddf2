-- The homes of a text without a fault have no more members than a type may have.
use Rattle.std.proofs.Common.{◌≡◌, ℕ, ◌≤◌, List, [], ◌∷◌, length, map, Bool, true, false, not, ◌&&◌, ◌||◌, nat_lt, Option, Some, None, refl, sym, ap, ◌∙◌, arith}
use Rattle.std.specs.Option.{option_and_then, option_map}
use Rattle.std.proofs.lemmas.Bool.{ltb-false}
use Rattle.std.proofs.lemmas.List.{length-map}
use Rattle.type_layout.specs.Schemas.{given}
use Rattle.type_layout.specs.Types.{PlainMember}
use Rattle.type_layout.specs.declared.home.HomeNo.{HomeNo}
use Rattle.psdl_directory.specs.declared.fault.CheckKind.TheVariants.{Limit}
use Rattle.psdl_directory.specs.Declarations.{Declaration}
use Rattle.psdl_lineage.specs.Descent.{members, type_of_home}
use Rattle.psdl_rules.specs.Layouts.{layout_member, layout}
use Rattle.psdl_rules.specs.Faults.Limit.{most_members, has_long_default}
use Rattle.psdl_directory.specs.Lookup.{at}
use Rattle.psdl_directory.specs.Parts.{is_forward, is_storage_type, is_concrete_type}
use Rattle.psdl_check.specs.Schemas.{home_layout, referents}
use Rattle.psdl_standings.specs.Standings.{Standing, standings, all_there}
use Rattle.psdl_check.proofs.Meanings.{IsDefinition, definition_is, IsTypeOf, type_is}
use Rattle.psdl_rules.specs.Faults.{faults}
use Rattle.psdl_check.specs.declared.members.TypedMember.{TypedMember}
use Rattle.psdl_check.specs.inner.Made.{HasNames}
use Rattle.psdl_check.proofs.FaultlessTexts.{HasNone, does_not_hold, faultless_at}

-- ---- lists that are there

-- where all are there, each is
pub each_there : {A : Type 0} (os : List (Option A)) (xs : List A) → all_there os ≡ Some xs → os ≡ map (λ x. Some x) xs
each_there [] xs is = let same : [] ≡ xs = cc in ap (λ l. map (λ x. Some x) l) same
each_there (None ∷ os) xs is = absurd (cc)
each_there {A} (Some a ∷ os) xs is = by (all_there os) (each_there os) is
  where
    by : (o : Option (List A)) → ((ys : List A) → o ≡ Some ys → os ≡ map (λ x. Some x) ys) → option_map (λ others. a ∷ others) o ≡ Some xs → Some a ∷ os ≡ map (λ x. Some x) xs
    by None f is = absurd (cc)
    by (Some ys) f is = let same : a ∷ ys ≡ xs = cc in ap (λ (l : List (Option A)). Some a ∷ l) (f ys refl) ∙ ap (λ (l : List A). map (λ x. Some x) l) same

-- ---- a home's layout

-- the layout of a home's type is there
pub record HasLayout (all : List Declaration) (n t : ℕ) (ms : List PlainMember) : Type 0 where
  pub is_type : type_of_home all n ≡ Some t
  pub is_layout : layout all (standings all) (referents all) t ≡ Some ms

-- what holds of no members, and of the layout of each type of a home, holds of each home's layout
pub each_layout : (all : List Declaration) (n : ℕ) (P : List PlainMember → Type 0) → P [] → ((t : ℕ) (ms : List PlainMember) → HasLayout all n t ms → P ms) → P (home_layout all (standings all) n)
each_layout all n P empty f = by (type_of_home all n) refl
  where
    there : (t : ℕ) → type_of_home all n ≡ Some t → (o : Option (List PlainMember)) → layout all (standings all) (referents all) t ≡ o → P (given o [] (λ ms. ms))
    there t e None is = empty
    there t e (Some ms) is = f t ms (record { is_type = e; is_layout = is })

    by : (o : Option ℕ) → type_of_home all n ≡ o → P (given (option_and_then (layout all (standings all) (referents all)) o) [] (λ ms. ms))
    by None e = empty
    by (Some t) e = there t e (layout all (standings all) (referents all) t) refl

-- the type of a home is a whole storage type
pub record IsWholeType (all : List Declaration) (t : ℕ) : Type 0 where
  pub is_storage : is_storage_type (at all t).what ≡ true
  pub is_whole : is_forward (at all t).what ≡ false
  pub has_none : HasNone all t

-- the type of each home is such
pub whole_type : (all : List Declaration) → faults all ≡ [] → (n t : ℕ) → type_of_home all n ≡ Some t → IsWholeType all t
whole_type all none n t is =
    let type : IsTypeOf all n t = type_is all n t is in
    let whole : IsDefinition all type.means.declared t = definition_is all type.means.declared t type.means.is_definition in
    record { is_storage = type.is_storage; is_whole = whole.is_whole; has_none = faultless_at all none t whole.is_declared }

-- ---- how many members

as_many : (all : List Declaration) (done : List Standing) (homes : ℕ → List HomeNo) (t : ℕ) (ms : List PlainMember) → layout all done homes t ≡ Some ms → length ms ≡ length (members all t)
as_many all done homes t ms is =
    let same = each_there (map (layout_member all done homes) (members all t)) ms is in
    sym (length-map ms (λ (m : PlainMember). Some m)) ∙ sym (ap (λ (l : List (Option PlainMember)). length l) same) ∙ length-map (members all t) (layout_member all done homes)

short_list : (a b l : Bool) (c : Bool) → a ≡ true → b ≡ false → a && not b && (l || c) ≡ false → (l ≡ false) × (c ≡ false)
short_list true false false false p q e = (refl, refl)
short_list true false true c p q e = absurd (cc)
short_list true false false true p q e = absurd (cc)
short_list true true l c p q e = absurd (cc)
short_list false b l c p q e = absurd (cc)

-- neither too many members, nor a default record that is too long
pub no_long : (all : List Declaration) (t : ℕ) → IsWholeType all t
    → (nat_lt most_members (length (members all t)) ≡ false) × (is_concrete_type (at all t).what && has_long_default all (standings all) t ≡ false)
no_long all t whole =
    let what = (at all t).what in
    let long : Bool = nat_lt most_members (length (members all t)) in
    let wide : Bool = is_concrete_type what && has_long_default all (standings all) t in
    short_list (is_storage_type what) (is_forward what) long wide whole.is_storage whole.is_whole
    (does_not_hold (is_storage_type what && not (is_forward what) && (long || wide)) Limit (at all t).place whole.has_none.no_long_type)

-- a home has at most 255 members
pub few_members : (all : List Declaration) → faults all ≡ [] → (n : ℕ) → length (home_layout all (standings all) n) ≤ most_members
few_members all none n =
    each_layout all n (λ ms. length ms ≤ most_members) (omega arith)
    (λ t ms has.
    let few : length (members all t) ≤ most_members = ltb-false most_members (length (members all t)) (no_long all t (whole_type all none n t has.is_type)).0 in
    omega (arith, few, as_many all (standings all) (referents all) t ms has.is_layout))

-- members with the names of a home's are as many
pub few_named : (all : List Declaration) (home : ℕ) (ms : List TypedMember) → HasNames all home ms → length (home_layout all (standings all) home) ≤ most_members → length ms ≤ most_members
few_named all home ms has few =
    omega
    (arith, few, ap (λ (l : List (List ℕ)). length l) has, length-map ms (λ (m : TypedMember). m.name.now.name), length-map (home_layout all (standings all) home) (λ (m : PlainMember). m.name))
