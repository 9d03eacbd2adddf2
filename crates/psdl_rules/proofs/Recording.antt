-- The octets of the default records of members.
use Rattle.std.proofs.Common.{◌≡◌, ℕ, suc, ◌+◌, ◌-◌, ◌%◌, List, [], ◌∷◌, ◌++◌, Bool, ◌&&◌, ◌||◌, length, map, true, false, nat_lt, Option, Some, None, refl, sym, ap, ◌∙◌, arith, inl, inr}
use mathlib.Core.Path.{fun_ext}
use Rattle.std.specs.Prelude.{option_map, replicate}
use Rattle.std.proofs.lemmas.Bool.{cases_lt, lt-ltb}
use Rattle.type_layout.specs.Schemas.{given}
use Rattle.type_layout.specs.Types.{PlainType, Octet, PlainMember, values_of, value_and, PlainValues}
use Rattle.type_layout.specs.Defaults.{default, default_record, defaults}
use Rattle.type_layout.specs.Spelling.{spellings, record_spelling}
use Rattle.type_layout.specs.Values.{layout_fields}
use Rattle.psdl_directory.specs.Declarations.{Declaration}
use Rattle.psdl_lineage.specs.Descent.{StateMember, members}
use Rattle.psdl_standings.specs.declared.state_entry.StateEntry.{StateEntry}
use Rattle.psdl_standings.specs.Extents.{Extent, cut, followed, extent}
use Rattle.psdl_standings.specs.Standings.{standings, all_there}
use Rattle.psdl_rules.specs.Layouts.{layout_member, member_type}
use Rattle.psdl_rules.specs.Faults.Limit.{most_members, has_long_default}
use Rattle.psdl_rules.specs.inner.Typed.{AreTypes, default_types, defaults_extent, are_long}
use Rattle.psdl_standings.proofs.Defaulting.{short, chained, followed_short, chained-assoc, chained_nothing, octets, fields_octets, field_octets}
use Rattle.psdl_rules.proofs.Typing.{as_many}

-- ---- defaults behind what stands in front

abbrev behind_front : Extent → Option (List PlainMember) → Option Extent
behind_front front o = option_map (λ ms. short (chained front (fields_octets (layout_fields ms)))) o

abbrev laid_out : StateMember → PlainType → PlainMember
laid_out m t = record { name = m.name.name; type = t; readonly = m.readonly }

one_behind : (m : StateMember) (front : Extent) (t : PlainType) (rest : Option (List PlainMember)) → behind_front (chained front (octets t)) rest ≡ behind_front front (option_map (λ others. laid_out m t ∷ others) rest)
one_behind m front t None = refl
one_behind m front t (Some ms) =
    ap (λ (f : Extent). Some (short f)) (chained-assoc front (octets t) (fields_octets (layout_fields ms)) ∙ ap (chained front) (sym (field_octets m.name.name t (layout_fields ms))))

one_member : (m : StateMember) (os : List (Option PlainType)) (front : Extent) (rest : Option (List PlainMember)) → ((h : Extent) → defaults_extent os (short h) ≡ behind_front h rest) → (o : Option PlainType)
    → given (option_map extent o) None (λ f. defaults_extent os (followed (short front) f)) ≡ behind_front front (given (option_map (laid_out m) o) None (λ a. option_map (λ others. a ∷ others) rest))
one_member m os front rest further None = refl
one_member m os front rest further (Some t) = ap (defaults_extent os) (followed_short front (octets t)) ∙ further (chained front (octets t)) ∙ one_behind m front t rest

members_are : (all : List Declaration) (ms : List StateMember) (front : Extent)
    → defaults_extent (map (member_type all (standings all) (λ _. [])) ms) (short front) ≡ behind_front front (all_there (map (layout_member all (standings all) (λ _. [])) ms))
members_are all [] front = ap (λ (f : Extent). Some (short f)) (sym (chained_nothing front))
members_are all (m ∷ ms) front =
    one_member m (map (member_type all (standings all) (λ _. [])) ms) front (all_there (map (layout_member all (standings all) (λ _. [])) ms)) (members_are all ms) (member_type all (standings all) (λ _. []) m)

-- ---- the record

abbrev one : Extent
one place = 1

octet_is_one : extent Octet ≡ short one
octet_is_one = fun_ext (λ place. ap (λ (n : ℕ). cut (length {A = ℕ} (replicate n 0 ++ 0 ∷ []))) (none place))
  where
    none : (place : ℕ) → (1 - place % 1) % 1 ≡ 0
    none place = omega arith

values_are : (ms : List PlainMember) → values_of (default_record ms) ≡ defaults (layout_fields ms)
values_are [] = refl
values_are (m ∷ ms) = ap (λ (vs : PlainValues). value_and (default m.type) vs) (values_are ms)

over_alike : (n : ℕ) → nat_lt 8000 (cut n) ≡ nat_lt 8000 n
over_alike n = elim (cases_lt n 8001) [
  | inl lt ↦ (let same : cut n ≡ n = omega (arith, lt) in ap (nat_lt 8000) same)
  | inr le ↦ (let same : cut n ≡ 8001 = omega (arith, le) in ap (nat_lt 8000) same ∙ sym (lt-ltb 8000 n (omega (arith, le))))
]

record_octets : (ms : List PlainMember) → nat_lt 8000 (cut (1 + fields_octets (layout_fields ms) (0 + 1))) ≡ nat_lt 8000 (length (record_spelling ms (default_record ms)))
record_octets ms =
    over_alike (1 + fields_octets (layout_fields ms) (0 + 1))
    ∙ ap (nat_lt 8000) (more (fields_octets (layout_fields ms) 1))
    ∙ ap (λ (vs : PlainValues). nat_lt 8000 (length (0 ∷ spellings (layout_fields ms) vs 1))) (sym (values_are ms))
  where
    more : (n : ℕ) → 1 + n ≡ suc n
    more n = omega arith

over_front : (o : Option (List PlainMember)) → given (behind_front one o) false (λ f. nat_lt 8000 (f 0)) ≡ given o false (λ ms. nat_lt 8000 (length (record_spelling ms (default_record ms))))
over_front None = refl
over_front (Some ms) = record_octets ms

long_by : (all : List Declaration) (n : ℕ) → are_long (map (member_type all (standings all) (λ _. [])) (members all n)) ≡ has_long_default all (standings all) n
long_by all n =
    let os = map (member_type all (standings all) (λ _. [])) (members all n) in
    ap (λ (f : Extent). given (defaults_extent os f) false (λ g. nat_lt 8000 (g 0))) octet_is_one
    ∙ ap (λ (o : Option Extent). given o false (λ f. nat_lt 8000 (f 0))) (members_are all (members all n) one)
    ∙ over_front (all_there (map (layout_member all (standings all) (λ _. [])) (members all n)))

-- by what is kept of the members
pub long_is : (all : List Declaration) (types : List PlainType) (n : ℕ) (concrete : Bool) (kept : List StateEntry) → AreTypes all types (members all n) kept
    → (nat_lt 255 (length kept) || (concrete && are_long (default_types types kept))) ≡ (nat_lt most_members (length (members all n)) || (concrete && has_long_default all (standings all) n))
long_is all types n concrete kept are =
    ap (λ (k : ℕ). nat_lt 255 k || (concrete && are_long (default_types types kept))) (as_many all types (members all n) kept are)
    ∙ ap (λ (b : Bool). nat_lt 255 (length (members all n)) || (concrete && b)) (ap are_long (are (λ _. [])) ∙ long_by all n)

-- ---- where it is a type that is known whole

pub all_true : (s a b x : Bool) → s ≡ true → (a && b) ≡ true → x ≡ (s && a && b && x)
all_true true true true x p q = refl
all_true true true false x p q = absurd (cc)
all_true true false b x p q = absurd (cc)
all_true false a b x p q = absurd (cc)
