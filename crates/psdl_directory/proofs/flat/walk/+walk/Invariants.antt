use Rattle.std.proofs.Common.{◌≡◌, ◌++◌, drop, map}
use Rattle.psdl_tree.specs.Views.{definitions_of, definition_view}
use Rattle.psdl_directory.specs.Declarations.{declarations}
use Rattle.psdl_directory.specs.inner.Flattened.{all_in}
use Rattle.psdl_directory.specs.inner.Scopes.{path_at, Grows}
use Rattle.psdl_directory.proofs.flat.walk.+walk.Given as goal

abbrev pub invariant-add_definitions-loop-definition : goal.invariant-add_definitions-loop-definition
invariant-add_definitions-loop-definition l =
    let path = path_at l.fn.flat.scopes l.scope in
    record {
      grows : Grows l.fn.flat.scopes l.flat.scopes;
      so_far : all_in l.flat ++ declarations path (definitions_of (map definition_view (drop l.definition-index l.definitions))) ≡ all_in l.fn.flat ++ declarations path (definitions_of (map definition_view l.definitions));
    }
