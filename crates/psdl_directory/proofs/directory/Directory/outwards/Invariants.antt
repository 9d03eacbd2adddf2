use Rattle.std.proofs.Common.{◌≡◌, ◌<◌, ℕ, List, Some, length}
use Rattle.psdl_directory.specs.Directories.{all_of}
use Rattle.psdl_directory.specs.Lookup.{outwards, first_of}
use Rattle.psdl_directory.specs.Spelled.{number_of, spelled_by}
use Rattle.psdl_directory.specs.inner.Scopes.{path_at}
use Rattle.psdl_directory.proofs.directory.Directory.outwards.Given as goal

abbrev pub invariant-loop-first : goal.invariant-loop-first
invariant-loop-first l =
    record {
      inside : l.at < length l.self.scopes;
      so_far :
          (name : List ℕ) → number_of l.self.keys.spellings (spelled_by l.spelling name) ≡ Some l.name
          → outwards (λ p. first_of (spelled_by l.spelling) (all_of l.self) l.limit p name) (path_at l.self.scopes l.scope) ≡ outwards (λ p. first_of (spelled_by l.spelling) (all_of l.self) l.limit p name) (path_at l.self.scopes l.at);
    }

abbrev pub decreases-loop-first : goal.decreases-loop-first
decreases-loop-first l = l.at
