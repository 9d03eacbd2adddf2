use Rattle.std.proofs.Common.{◌≡◌, ◌<◌, ◌++◌, length, map}
use Rattle.psdl_directory.specs.inner.Scopes.{path_at}
use Rattle.psdl_directory.proofs.scopes.Scopes.names.Given as goal

abbrev pub invariant-loop-at : goal.invariant-loop-at
invariant-loop-at l =
    record {
      there : l.at < length l.self;
      names : map (λ n. n.now) l.names.items ++ path_at l.self l.at ≡ path_at l.self l.scope;
    }

abbrev pub decreases-loop-at : goal.decreases-loop-at
decreases-loop-at l = l.at
