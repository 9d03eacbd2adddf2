-- What is told of declarations.
use Rattle.std.proofs.Common.{◌≡◌, ℕ, ◌+◌, ◌<◌, List, [], ◌∷◌, ◌++◌, length, map, true, Option, Some, None, refl, sym, ap, ◌∙◌, append_assoc}
use Rattle.std.proofs.Common.{Bor}
use Rattle.std.specs.Prelude.{IfSome}
use Rattle.psdl_tree.specs.declared.definitions.Constant.{Constant as ConstantNode}
use Rattle.psdl_tree.specs.declared.types.TypeSpec.{TypeSpec as TypeSpecNode}
use Rattle.psdl_tree.specs.declared.expressions.Expression.{Expression as ExpressionNode}
use Rattle.psdl_tree.specs.declared.definitions.Struct.{Struct as StructNode}
use Rattle.psdl_tree.specs.declared.names.Identifiers.{Identifiers as IdentifiersNode}
use Rattle.psdl_directory.specs.declared.declaration.What.{What as WhatNode}
use Rattle.psdl_directory.specs.declared.declaration.What.TheVariants as nodes
use Rattle.psdl_directory.specs.inner.Nodes.{what_view}
use Rattle.std.specs.List.{flat_map}
use Rattle.psdl_directory.specs.Parts.{all_fields, bases, implemented, managed, states, operations}
use Rattle.std.specs.Option.{option_and_then, option_to_list}
use Rattle.psdl_tree.specs.Trees.{State, Provision}
use Rattle.psdl_standings.specs.declared.need.Need.TheVariants as needs
use Rattle.std.proofs.lemmas.List.{append-nil}
use Rattle.psdl_tree.specs.Trees.{Expression, TypeSpec, Struct as StructTree}
use Rattle.type_layout.specs.Types.{PlainType}
use Rattle.psdl_directory.specs.Declarations.{What, IsModule, IsConstant, IsAlias, IsStruct, IsEnumeration, IsEnumerator, IsAbstractType, IsConcreteType, IsAbstractHome, IsConcreteHome, IsCatalog}
use Rattle.psdl_directory.specs.Lookup.{at, origin}
use Rattle.psdl_standings.specs.declared.spot.Spot.{Spot}
use Rattle.psdl_standings.specs.declared.state_entry.StateEntry.{StateEntry}
use Rattle.psdl_standings.specs.declared.numbered_standing.NumberedStanding.{NumberedStanding}
use Rattle.psdl_standings.specs.declared.numbered_standing.NumberedStanding.TheVariants as tellings
use Rattle.psdl_standings.specs.declared.walk.Walk.{Walk}
use Rattle.psdl_standings.specs.Standings.{Nothing, arrays_by, struct_by, as_type, standing_of}
use Rattle.psdl_standings.specs.States.{state_types}
use Rattle.psdl_standings.specs.Turns.{alias_type}
use Rattle.psdl_standings.specs.Uses.{Use, Bound, in_expressions, bounds_of, most_elements, use_of, base_need, implements_need, in_field, in_state_type, in_operation, in_store, field_bounds}
use Rattle.psdl_standings.specs.inner.Declared.{own_uses, own_noted, in_body, body_bounds, store_uses, within, Tells, IsTold, AreStatesThere}
use Rattle.psdl_standings.specs.inner.Entries.{AddsStates}
use Rattle.psdl_standings.specs.inner.Tellings.{stand, is_there}
use Rattle.psdl_standings.specs.inner.TypeTables.{entry_type}
use Rattle.psdl_standings.specs.inner.Walked.{text_in, done_in, names_in, noted_in, AddsType, Adds}

pub tells_of : (a b : Walk) (spot : Spot) (us : List Use) (bs : List Bound) (type : Option PlainType) (number : Option ℕ) (told : NumberedStanding) → Adds a b spot us bs type number → ((types : List PlainType) → stand types told ≡ as_type (entry_type types number))
    → ((count : ℕ) → IfSome number (λ n. n < count) → is_there count told ≡ true) → Tells a b spot us bs (as_type type) told
tells_of a b spot us bs type number told x is there = record { goes = x.goes; noted = x.noted; there = there (length b.types) x.there; is = is b.types ∙ ap as_type x.is }

pub told_alias : (a b : Walk) (n before : ℕ) (spec : TypeSpec) (dimensions : List Expression) (item : Option ℕ) (told : NumberedStanding) → entry_type a.types item ≡ alias_type (text_in a) (done_in a) n (at (text_in a) n).path (IsAlias before spec dimensions)
    → Tells a b (within n None) (in_expressions (n + 1) dimensions) (bounds_of (n + 1) most_elements dimensions) (as_type (option_and_then (arrays_by (names_in a (within n None)) dimensions) (entry_type a.types item))) told → IsTold a b n (IsAlias before spec dimensions) told
told_alias a b n before spec dimensions item told is x =
    record { goes = x.goes; noted = x.noted; there = x.there; is = x.is ∙ ap (λ (t : Option PlainType). as_type (option_and_then (arrays_by (names_in a (within n None)) dimensions) t)) is }

-- a type that was added, of which nothing is noted
pub told_added : (a b : Walk) (n : ℕ) (what : What) (type : PlainType) (number : Option ℕ) (told : NumberedStanding) → AddsType a b (Some type) number → own_noted a n what ≡ a.faults → ((types : List PlainType) → stand types told ≡ as_type (entry_type types number))
    → ((count : ℕ) → IfSome number (λ n. n < count) → is_there count told ≡ true) → as_type (Some type) ≡ standing_of (text_in a) (done_in a) n (at (text_in a) n).path what → IsTold a b n what told
told_added a b n what type number told x none is there e = record { goes = x.goes; noted = x.same ∙ sym none; there = there (length b.types) x.there; is = is b.types ∙ ap as_type x.is ∙ e }

pub told_of_struct : (a b : Walk) (n : ℕ) (own : Option ℕ) (s : StructTree) (number : Option ℕ) (told : NumberedStanding) → own ≡ origin (text_in a) n
    → Adds a b (within n own) (flat_map (in_field (n + 1)) (all_fields s)) (flat_map (field_bounds (n + 1)) (all_fields s)) (struct_by (names_in a (within n own)) s) number → ((types : List PlainType) → stand types told ≡ as_type (entry_type types number))
    → ((count : ℕ) → IfSome number (λ n. n < count) → is_there count told ≡ true) → IsTold a b n (IsStruct s) told
told_of_struct a b n own s number told e x is there =
    record {
      goes = x.goes;
      noted = x.noted ∙ ap (λ (o : Option ℕ). noted_in a (within n o) (flat_map (in_field (n + 1)) (all_fields s)) (flat_map (field_bounds (n + 1)) (all_fields s))) e;
      there = there (length b.types) x.there;
      is = is b.types ∙ ap as_type x.is;
    }

-- nothing is kept of what has no states
pub no_states : (a b : Walk) (n : ℕ) (what : What) (kept : List StateEntry) → state_types what ≡ [] → kept ≡ [] → AreStatesThere a b n what kept
no_states a b n what kept none is = record { below = rw is refl; are = λ homes. rw (is, none) refl }

-- a declaration is what it was matched to be
pub as_matched : (a b : Walk) (n : ℕ) (what found : What) (told : NumberedStanding) → what ≡ found → IsTold a b n found told → IsTold a b n what told
as_matched a b n what found told e x = rw e x

pub alias_matched : (a b : Walk) (n : ℕ) (what : What) (before : ℕ) (spec : TypeSpec) (dimensions : List Expression) (item : Option ℕ) (told : NumberedStanding) → what ≡ IsAlias before spec dimensions
    → entry_type a.types item ≡ alias_type (text_in a) (done_in a) n (at (text_in a) n).path what
    → Tells a b (within n None) (in_expressions (n + 1) dimensions) (bounds_of (n + 1) most_elements dimensions) (as_type (option_and_then (arrays_by (names_in a (within n None)) dimensions) (entry_type a.types item))) told → IsTold a b n what told
alias_matched a b n what before spec dimensions item told e is x =
    as_matched a b n what (IsAlias before spec dimensions) told e
    (told_alias a b n before spec dimensions item told (is ∙ ap (λ (v : What). alias_type (text_in a) (done_in a) n (at (text_in a) n).path v) e) x)

pub none_matched : (a b : Walk) (n : ℕ) (what found : What) (kept : List StateEntry) → what ≡ found → state_types found ≡ [] → kept ≡ [] → AreStatesThere a b n what kept
none_matched a b n what found kept e none is = no_states a b n what kept (ap state_types e ∙ none) is

-- ---- storage types, homes and catalogs

-- a declaration that stands for nothing
abbrev pub IsStore : What → Type 0
IsStore (IsConstant c) = ⊥
IsStore (IsAlias before spec dimensions) = ⊥
IsStore (IsStruct s) = ⊥
IsStore (IsEnumeration e) = ⊥
IsStore _ = Unit {0}

regroup : {A : Type 0} (a b c d e : List A) → a ++ (b ++ (c ++ (d ++ e))) ≡ a ++ b ++ c ++ d ++ e
regroup a b c d e = simp append_assoc

-- what none of the others is
pub store_is : (w : WhatNode) → ((x : Bor ConstantNode) → w ≡ nodes.Constant x → ⊥) → ((k : ℕ) (spec : Bor TypeSpecNode) (dimensions : Bor (List ExpressionNode)) → w ≡ nodes.Alias k spec dimensions → ⊥) → ((x : Bor StructNode) → w ≡ nodes.Struct x → ⊥)
    → ((x : Bor IdentifiersNode) → w ≡ nodes.Enumeration x → ⊥) → IsStore (what_view w)
store_is (nodes.Module scope) a b d e = tt
store_is (nodes.Constant x) a b d e = a x refl
store_is (nodes.Alias k spec dimensions) a b d e = b k spec dimensions refl
store_is (nodes.Struct x) a b d e = d x refl
store_is (nodes.Enumeration x) a b d e = e x refl
store_is nodes.Enumerator a b d e = tt
store_is (nodes.AbstractType body) a b d e = tt
store_is (nodes.ConcreteType body) a b d e = tt
store_is (nodes.AbstractHome body) a b d e = tt
store_is (nodes.ConcreteHome home) a b d e = tt
store_is (nodes.Catalog provisions) a b d e = tt

four : {A : Type 0} (a b c d e : List A) → (a ++ (b ++ (c ++ []))) ++ (d ++ e) ≡ a ++ b ++ c ++ d ++ e
four {A} a b c d e =
    append_assoc a (b ++ (c ++ [])) (d ++ e)
    ∙ ap (λ (l : List A). a ++ l) (append_assoc b (c ++ []) (d ++ e) ∙ ap (λ (l : List A). b ++ l) (ap (λ (l : List A). l ++ (d ++ e)) (append-nil c)))
    ∙ regroup a b c d e

by_parts : (n : ℕ) (what : What)
    → (map (use_of (n + 1) (base_need what)) (bases what) ++ (map (use_of (n + 1) (implements_need what)) (implemented what) ++ (map (use_of (n + 1) needs.OfStorageType) (option_to_list (managed what)) ++ []))) ++ in_body (n + 1) what ≡ in_store (n + 1) what
by_parts n what =
    four (map (use_of (n + 1) (base_need what)) (bases what)) (map (use_of (n + 1) (implements_need what)) (implemented what)) (map (use_of (n + 1) needs.OfStorageType) (option_to_list (managed what)))
    (flat_map (λ (s : State). in_state_type (n + 1) s.state_type) (states what)) (flat_map (in_operation (n + 1)) (operations what))

uses_of_store : (n : ℕ) (what : What) → IsStore what → store_uses n what ≡ own_uses n what
uses_of_store n IsModule s = refl
uses_of_store n (IsConstant c) s = absurd s
uses_of_store n (IsAlias before spec dimensions) s = absurd s
uses_of_store n (IsStruct x) s = absurd s
uses_of_store n (IsEnumeration e) s = absurd s
uses_of_store n IsEnumerator s = refl
uses_of_store n (IsAbstractType body) s = by_parts n (IsAbstractType body)
uses_of_store n (IsConcreteType body) s = by_parts n (IsConcreteType body)
uses_of_store n (IsAbstractHome body) s = by_parts n (IsAbstractHome body)
uses_of_store n (IsConcreteHome home) s = by_parts n (IsConcreteHome home)
uses_of_store n (IsCatalog provisions) s = append-nil (map (λ (p : Provision). use_of (n + 1) needs.OfAbstractHome p.home) provisions)

noted_of_store : (a : Walk) (n : ℕ) (what : What) → IsStore what → noted_in a (within n None) (own_uses n what) (body_bounds (n + 1) what) ≡ own_noted a n what
noted_of_store a n IsModule s = refl
noted_of_store a n (IsConstant c) s = absurd s
noted_of_store a n (IsAlias before spec dimensions) s = absurd s
noted_of_store a n (IsStruct x) s = absurd s
noted_of_store a n (IsEnumeration e) s = absurd s
noted_of_store a n IsEnumerator s = refl
noted_of_store a n (IsAbstractType body) s = refl
noted_of_store a n (IsConcreteType body) s = refl
noted_of_store a n (IsAbstractHome body) s = refl
noted_of_store a n (IsConcreteHome home) s = refl
noted_of_store a n (IsCatalog provisions) s = refl

stands_for_nothing : (a : Walk) (n : ℕ) (what : What) → IsStore what → Nothing ≡ standing_of (text_in a) (done_in a) n (at (text_in a) n).path what
stands_for_nothing a n IsModule s = refl
stands_for_nothing a n (IsConstant c) s = absurd s
stands_for_nothing a n (IsAlias before spec dimensions) s = absurd s
stands_for_nothing a n (IsStruct x) s = absurd s
stands_for_nothing a n (IsEnumeration e) s = absurd s
stands_for_nothing a n IsEnumerator s = refl
stands_for_nothing a n (IsAbstractType body) s = refl
stands_for_nothing a n (IsConcreteType body) s = refl
stands_for_nothing a n (IsAbstractHome body) s = refl
stands_for_nothing a n (IsConcreteHome home) s = refl
stands_for_nothing a n (IsCatalog provisions) s = refl

pub told_store : (a b : Walk) (n : ℕ) (what : What) (front kept : List StateEntry) → IsStore what → AddsStates a b (within n None) (store_uses n what) (body_bounds (n + 1) what) (state_types what) front kept → IsTold a b n what tellings.Nothing
told_store a b n what front kept s x =
    record {
      goes = x.notes.goes;
      noted = x.notes.noted ∙ ap (λ (us : List Use). noted_in a (within n None) us (body_bounds (n + 1) what)) (uses_of_store n what s) ∙ noted_of_store a n what s;
      there = refl;
      is = stands_for_nothing a n what s;
    }

pub kept_of_store : (a b : Walk) (n : ℕ) (what : What) (front kept : List StateEntry) (us : List Use) (bs : List Bound) → front ≡ [] → AddsStates a b (within n None) us bs (state_types what) front kept → AreStatesThere a b n what kept
kept_of_store a b n what [] kept us bs e x = record { below = x.below; are = x.are }
kept_of_store a b n what (f ∷ fs) kept us bs e x = cc
