use Rattle.std.proofs.Common.{◌≡◌, ◌++◌, ◌+◌, map, drop}
use Rattle.psdl_tree.specs.Views.{provision_view}
use Rattle.psdl_directory.specs.Directories.{all_of}
use Rattle.psdl_directory.specs.Headers.{used}
use Rattle.psdl_directory.proofs.headers.of_provisions.Given as goal

abbrev pub invariant-loop-provision : goal.invariant-loop-provision
invariant-loop-provision l =
    l.uses.items ++ map (λ p. used (all_of l.directory) (l.number + 1) l.number p.home) (map provision_view (drop l.provision-index l.provisions))
    ≡ map (λ p. used (all_of l.directory) (l.number + 1) l.number p.home) (map provision_view l.provisions)
