-- Keys and factories one by one, their lists by identifiers.
use Rattle.std.specs.Prelude.{ℕ, List, [], ◌∷◌, map, Some}
use Rattle.std.specs.List.{flat_map}
use Rattle.psdl_tree.specs.declared.names.Identifier.{Identifier}
use Rattle.psdl_tree.specs.Trees.{Key, Factory, AbstractHomeMember, KeyMember, FactoryMember, HomeOperation, HomeMember, PlainKey, PrimaryKey, HomeFactory}
use Rattle.psdl_directory.specs.Declarations.{What, IsAbstractHome, IsConcreteHome, Declaration}
use Rattle.psdl_directory.specs.Lookup.{at}
use Rattle.psdl_directory.specs.Parts.{key_list, factory_list}
use Rattle.psdl_lineage.specs.Descent.{Listed, names_of}
use Rattle.psdl_members.specs.declared.list_kind.ListKind.{ListKind}
use Rattle.psdl_members.specs.declared.list_kind.ListKind.TheVariants as kinds
use Rattle.psdl_members.specs.declared.listed.Listed.{Listed as ListedNode}
use Rattle.psdl_members.specs.Listings.{identifiers_in}

pub record Whole : Type 0 where
  pub name : List ℕ
  pub identifiers : List Identifier

abbrev pub whole_view : ListedNode → Whole
whole_view l = record { name = l.name.now.name; identifiers = identifiers_in l }

abbrev pub whole_views : List ListedNode → List Whole
whole_views ls = map whole_view ls

abbrev pub whole_key : Key → Whole
whole_key key = record { name = key.name.name; identifiers = key_list key }

abbrev pub whole_factory : Factory → Whole
whole_factory factory = record { name = factory.name.name; identifiers = factory_list factory }

abbrev pub of_key : ListKind → Key → List Whole
of_key kinds.Key key = whole_key key ∷ []
of_key kinds.Factory key = []

abbrev pub of_factory : ListKind → Factory → List Whole
of_factory kinds.Key factory = []
of_factory kinds.Factory factory = whole_factory factory ∷ []

abbrev pub of_abstract : ListKind → AbstractHomeMember → List Whole
of_abstract kind (KeyMember key) = of_key kind key
of_abstract kind (FactoryMember factory) = of_factory kind factory
of_abstract kind (HomeOperation operation) = []

abbrev pub of_concrete : ListKind → HomeMember → List Whole
of_concrete kind (PlainKey key) = of_key kind key
of_concrete kind (PrimaryKey key) = of_key kind key
of_concrete kind (HomeFactory factory) = of_factory kind factory

abbrev pub whole_in : ListKind → What → List Whole
whole_in kind (IsAbstractHome (Some body)) = flat_map (of_abstract kind) body.members
whole_in kind (IsConcreteHome home) = flat_map (of_concrete kind) home.members
whole_in kind _ = []

-- by names alone
abbrev pub listed_of : Whole → Listed
listed_of w = record { name = w.name; members = names_of w.identifiers }

-- what `lists_of` has, member by member
abbrev pub listed_in : ListKind → What → List Listed
listed_in kind what = map listed_of (whole_in kind what)

abbrev pub own_lists : ListKind → List Declaration → ℕ → List Listed
own_lists kind all n = listed_in kind (at all n).what
