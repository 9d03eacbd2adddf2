-- Declarations in whose bodies the identifiers are names.
use Rattle.std.proofs.Common.{◌≡◌, ℕ, List, ◌++◌, length, Bool, true, inl, inr, Some, None, sym, ap, ◌∙◌, ⊎_elim}
use Rattle.std.specs.List.{list_all, flat_map}
use Rattle.std.proofs.lemmas.Bool.{and_parts, and_from, cases_lt}
use Rattle.std.proofs.lemmas.List.{get_or_past}
use Rattle.std.proofs.lemmas.List.Folds.{list_all-append}
use Rattle.psdl_tree.specs.declared.names.Identifier.{Identifier}
use Rattle.psdl_tree.specs.Trees.{State, Key, Factory, Provision, AbstractTypeMember, StateMember, OperationMember, AbstractHomeMember, KeyMember, FactoryMember, HomeOperation, HomeMember, PlainKey, PrimaryKey, HomeFactory}
use Rattle.type_layout.specs.Sound.{is_name}
use Rattle.psdl_directory.specs.Declarations.{What, IsModule, IsConstant, IsAlias, IsStruct, IsEnumeration, IsEnumerator, IsAbstractType, IsConcreteType, IsAbstractHome, IsConcreteHome, IsCatalog, Declaration}
use Rattle.psdl_directory.specs.Lookup.{nothing, at}
use Rattle.psdl_directory.specs.Parts.{provided, state_of, states, abstract_key, concrete_key, keys, abstract_factory, concrete_factory, factories, state_names, abstract_type_names, abstract_home_names, home_names, body_names}
use Rattle.psdl_sound.proofs.Among.{Among, among_from, among_flat, among_image}
use Rattle.psdl_sound.proofs.ScopedNames.{each_passes}

-- ---- identifiers that are names

abbrev pub has_name : Identifier → Bool
has_name i = is_name i.name

abbrev pub HaveNames : List Identifier → Type 0
HaveNames is = list_all has_name is ≡ true

-- of two parts
pub both_have : (is js : List Identifier) → HaveNames is → HaveNames js → HaveNames (is ++ js)
both_have is js a b = list_all-append has_name is js ∙ and_from (list_all has_name is) (list_all has_name js) a b

-- each of two parts
pub parts_have : (is js : List Identifier) → HaveNames (is ++ js) → HaveNames is × HaveNames js
parts_have is js e = and_parts (list_all has_name is) (list_all has_name js) (sym (list_all-append has_name is js) ∙ e)

-- the identifiers of a declaration's body
abbrev pub is_named_inside : Declaration → Bool
is_named_inside d = list_all has_name (body_names d.what)

-- so of all declarations
abbrev pub AreNamedInside : List Declaration → Type 0
AreNamedInside all = list_all is_named_inside all ≡ true

-- each of them, and what is not declared has no body
pub named_inside : (all : List Declaration) → AreNamedInside all → (n : ℕ) → HaveNames (body_names (at all n).what)
named_inside all names n = ⊎_elim (λ lt. each_passes is_named_inside all names n lt) (λ le. ap is_named_inside (get_or_past all n nothing le)) (cases_lt n (length all))

-- ---- what stands in a body

-- what comes of a part in one way, where each part that has it has another thing in another way
also : {A B C : Type 0} (f : A → List B) (g : A → List C) (y : B) (z : C) → ((x : A) → Among y (f x) → Among z (g x)) → (xs : List A) → Among y (flat_map f xs) → Among z (flat_map g xs)
also f g y z step xs a = let r = among_from f xs y a in among_flat g xs r.0 z r.1 (step r.0 r.2)

state_there : (s : State) (i : Identifier) → Among i (state_names s) → (m : AbstractTypeMember) → Among s (state_of m) → Among i (abstract_type_names m)
state_there s i b (StateMember t) (inl e) = rw e b
state_there s i b (StateMember t) (inr a) = absurd a
state_there s i b (OperationMember o) a = absurd a

-- the names of a state
pub state_inside : (what : What) (s : State) (i : Identifier) → Among s (states what) → Among i (state_names s) → Among i (body_names what)
state_inside (IsAbstractType (Some body)) s i a b = also state_of abstract_type_names s i (state_there s i b) body.members a
state_inside (IsConcreteType (Some body)) s i a b = among_flat state_names body.states s i a b
state_inside (IsAbstractType None) s i a b = absurd a
state_inside (IsConcreteType None) s i a b = absurd a
state_inside IsModule s i a b = absurd a
state_inside (IsConstant constant) s i a b = absurd a
state_inside (IsAlias before spec dimensions) s i a b = absurd a
state_inside (IsStruct struct) s i a b = absurd a
state_inside (IsEnumeration enumerators) s i a b = absurd a
state_inside IsEnumerator s i a b = absurd a
state_inside (IsAbstractHome body) s i a b = absurd a
state_inside (IsConcreteHome home) s i a b = absurd a
state_inside (IsCatalog provisions) s i a b = absurd a

abstract_key_there : (k : Key) (m : AbstractHomeMember) → Among k (abstract_key m) → Among k.name (abstract_home_names m)
abstract_key_there k (KeyMember l) (inl e) = inl (ap (λ (x : Key). x.name) e)
abstract_key_there k (KeyMember l) (inr a) = absurd a
abstract_key_there k (FactoryMember f) a = absurd a
abstract_key_there k (HomeOperation o) a = absurd a

concrete_key_there : (k : Key) (m : HomeMember) → Among k (concrete_key m) → Among k.name (home_names m)
concrete_key_there k (PlainKey l) (inl e) = inl (ap (λ (x : Key). x.name) e)
concrete_key_there k (PlainKey l) (inr a) = absurd a
concrete_key_there k (PrimaryKey l) (inl e) = inl (ap (λ (x : Key). x.name) e)
concrete_key_there k (PrimaryKey l) (inr a) = absurd a
concrete_key_there k (HomeFactory f) a = absurd a

-- the name of a key
pub key_inside : (what : What) (k : Key) → Among k (keys what) → Among k.name (body_names what)
key_inside (IsAbstractHome (Some body)) k a = also abstract_key abstract_home_names k k.name (abstract_key_there k) body.members a
key_inside (IsConcreteHome home) k a = also concrete_key home_names k k.name (concrete_key_there k) home.members a
key_inside (IsAbstractHome None) k a = absurd a
key_inside IsModule k a = absurd a
key_inside (IsConstant constant) k a = absurd a
key_inside (IsAlias before spec dimensions) k a = absurd a
key_inside (IsStruct struct) k a = absurd a
key_inside (IsEnumeration enumerators) k a = absurd a
key_inside IsEnumerator k a = absurd a
key_inside (IsAbstractType body) k a = absurd a
key_inside (IsConcreteType body) k a = absurd a
key_inside (IsCatalog provisions) k a = absurd a

abstract_factory_there : (f : Factory) (m : AbstractHomeMember) → Among f (abstract_factory m) → Among f.name (abstract_home_names m)
abstract_factory_there f (FactoryMember g) (inl e) = inl (ap (λ (x : Factory). x.name) e)
abstract_factory_there f (FactoryMember g) (inr a) = absurd a
abstract_factory_there f (KeyMember k) a = absurd a
abstract_factory_there f (HomeOperation o) a = absurd a

concrete_factory_there : (f : Factory) (m : HomeMember) → Among f (concrete_factory m) → Among f.name (home_names m)
concrete_factory_there f (HomeFactory g) (inl e) = inl (ap (λ (x : Factory). x.name) e)
concrete_factory_there f (HomeFactory g) (inr a) = absurd a
concrete_factory_there f (PlainKey k) a = absurd a
concrete_factory_there f (PrimaryKey k) a = absurd a

-- the name of a factory
pub factory_inside : (what : What) (f : Factory) → Among f (factories what) → Among f.name (body_names what)
factory_inside (IsAbstractHome (Some body)) f a = also abstract_factory abstract_home_names f f.name (abstract_factory_there f) body.members a
factory_inside (IsConcreteHome home) f a = also concrete_factory home_names f f.name (concrete_factory_there f) home.members a
factory_inside (IsAbstractHome None) f a = absurd a
factory_inside IsModule f a = absurd a
factory_inside (IsConstant constant) f a = absurd a
factory_inside (IsAlias before spec dimensions) f a = absurd a
factory_inside (IsStruct struct) f a = absurd a
factory_inside (IsEnumeration enumerators) f a = absurd a
factory_inside IsEnumerator f a = absurd a
factory_inside (IsAbstractType body) f a = absurd a
factory_inside (IsConcreteType body) f a = absurd a
factory_inside (IsCatalog provisions) f a = absurd a

-- the name that a home is provided under
pub provision_inside : (what : What) (p : Provision) → Among p (provided what) → Among p.name (body_names what)
provision_inside (IsCatalog provisions) p a = among_image (λ (q : Provision). q.name) provisions p a
provision_inside IsModule p a = absurd a
provision_inside (IsConstant constant) p a = absurd a
provision_inside (IsAlias before spec dimensions) p a = absurd a
provision_inside (IsStruct struct) p a = absurd a
provision_inside (IsEnumeration enumerators) p a = absurd a
provision_inside IsEnumerator p a = absurd a
provision_inside (IsAbstractType body) p a = absurd a
provision_inside (IsConcreteType body) p a = absurd a
provision_inside (IsAbstractHome body) p a = absurd a
provision_inside (IsConcreteHome home) p a = absurd a
