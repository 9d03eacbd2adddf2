use Rattle.std.proofs.Common.{◌≡◌, ◌++◌, ◌+◌, map, drop, Some}
use Rattle.psdl_tree.specs.Views.{name_view, names_view}
use Rattle.psdl_directory.specs.Directories.{all_of}
use Rattle.psdl_directory.specs.Headers.{used}
use Rattle.psdl_directory.specs.Parts.{all_names}
use Rattle.psdl_directory.proofs.headers.of_all.Given as goal

abbrev pub invariant-loop-name : goal.invariant-loop-name
invariant-loop-name l =
    l.uses.items ++ map (used (all_of l.directory) (l.number + 1) l.number) (map name_view (drop l.name-index l.names.others.items))
    ≡ map (used (all_of l.directory) (l.number + 1) l.number) (all_names (Some (names_view l.names)))
