use Rattle.std.proofs.Common.{◌≡◌, ◌++◌, drop, map}
use Rattle.psdl_directory.specs.Declarations.{IsEnumerator, declared}
use Rattle.psdl_directory.specs.inner.Flattened.{all_in}
use Rattle.psdl_directory.specs.inner.Scopes.{path_at}
use Rattle.psdl_directory.proofs.flat.walk.add_enumerators.Given as goal

abbrev pub invariant-loop-name : goal.invariant-loop-name
invariant-loop-name l =
    let of = map (declared (path_at l.fn.flat.scopes l.scope) IsEnumerator) in
    record {
      scopes : l.flat.scopes ≡ l.fn.flat.scopes;
      so_far : all_in l.flat ++ of (drop l.name-index l.names) ≡ all_in l.fn.flat ++ of l.names;
    }
