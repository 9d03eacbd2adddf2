-- Members of types, and keys and factories of homes, that clash.
use Rattle.std.specs.Prelude.{ℕ, List, Bool, not, ◌&&◌, ◌||◌, if◌then◌else◌}
use Rattle.std.specs.Str.{bytes_eq}
use Rattle.psdl_tree.specs.declared.names.Identifier.{Identifier}
use Rattle.type_layout.specs.Sound.{are_distinct}
use Rattle.psdl_directory.specs.Declarations.{What, Declaration}
use Rattle.psdl_directory.specs.Parts.{is_storage_type, is_home}
use Rattle.psdl_directory.specs.Lookup.{lower}
use Rattle.psdl_lineage.specs.Descent.{StateMember, members, Listed, same_list, home_keys, home_factories}

abbrev pub are_alike : Identifier → Identifier → Bool
are_alike i j = bytes_eq (lower i.name) (lower j.name)

abbrev pub members_clash : StateMember → StateMember → Bool
members_clash a b = are_alike a.name b.name

-- names that are equal but for case, with different lists
abbrev pub lists_clash : Listed → Listed → Bool
lists_clash a b = bytes_eq (lower a.name) (lower b.name) && not (same_list a.members b.members)

-- a type has two members, or a home two keys or two factories, that clash
abbrev pub has_clash : List Declaration → ℕ → What → Bool
has_clash all n what =
    if is_storage_type what then not (are_distinct members_clash (members all n))
    else (is_home what && (not (are_distinct lists_clash (home_keys all n)) || not (are_distinct lists_clash (home_factories all n))))
