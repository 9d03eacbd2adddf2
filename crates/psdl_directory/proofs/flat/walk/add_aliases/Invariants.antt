use Rattle.std.proofs.Common.{◌≡◌, ◌+◌, ◌++◌, drop, map}
use Rattle.psdl_tree.specs.Views.{type_spec_view, declarator_view}
use Rattle.psdl_directory.specs.Declarations.{aliases}
use Rattle.psdl_directory.specs.inner.Flattened.{all_in}
use Rattle.psdl_directory.specs.inner.Scopes.{path_at}
use Rattle.psdl_directory.proofs.flat.walk.add_aliases.Given as goal

abbrev pub invariant-loop-i : goal.invariant-loop-i
invariant-loop-i l =
    let of = aliases (path_at l.fn.flat.scopes l.scope) (type_spec_view l.spec) in
    record {
      scopes : l.flat.scopes ≡ l.fn.flat.scopes;
      so_far : all_in l.flat ++ of (l.i + 1) (map declarator_view (drop l.i l.others)) ≡ all_in l.fn.flat ++ of 1 (map declarator_view l.others);
    }
