-- Keys and factories, as the program holds them, and as homes have them.
use Rattle.std.specs.Prelude.{ℕ, List, map, ◌++◌}
use Rattle.psdl_tree.specs.declared.names.Identifier.{Identifier}
use Rattle.psdl_directory.specs.Declarations.{What, Declaration}
use Rattle.psdl_directory.specs.Parts.{keys, factories, key_list, factory_list}
use Rattle.psdl_lineage.specs.Descent.{Listed, names_of, listed_key, listed_factory, home_keys, home_factories}
use Rattle.psdl_members.specs.declared.listed.Listed.{Listed as ListedNode}
use Rattle.psdl_members.specs.declared.list_kind.ListKind.{ListKind}
use Rattle.psdl_members.specs.declared.list_kind.ListKind.TheVariants as kinds

-- the identifiers in the list of a key or a factory
abbrev pub identifiers_in : ListedNode → List Identifier
identifiers_in l = l.first.now ++ l.others.now

abbrev pub listed_view : ListedNode → Listed
listed_view l = record { name = l.name.now.name; members = names_of (identifiers_in l) }

abbrev pub listed_views : List ListedNode → List Listed
listed_views ls = map listed_view ls

-- the list of each
abbrev pub identifiers_of_each : List ListedNode → List (List Identifier)
identifiers_of_each ls = map identifiers_in ls

-- those in the body of a declaration
abbrev pub lists_of : ListKind → What → List Listed
lists_of kinds.Key what = map listed_key (keys what)
lists_of kinds.Factory what = map listed_factory (factories what)

-- their identifiers
abbrev pub identifiers_of : ListKind → What → List (List Identifier)
identifiers_of kinds.Key what = map key_list (keys what)
identifiers_of kinds.Factory what = map factory_list (factories what)

-- those of a home, its own and by descent
abbrev pub home_lists : ListKind → List Declaration → ℕ → List Listed
home_lists kinds.Key all n = home_keys all n
home_lists kinds.Factory all n = home_factories all n
