use Rattle.std.proofs.Common.{◌≡◌, ◌<◌, length, drop}
use Rattle.psdl_directory.specs.Directories.{all_of}
use Rattle.psdl_directory.specs.Lookup.{inwards}
use Rattle.psdl_directory.specs.Spelled.{spelled_by}
use Rattle.psdl_directory.proofs.directory.Directory.inwards.Given as goal

abbrev pub invariant-loop-part : goal.invariant-loop-part
invariant-loop-part l =
    let onwards = inwards (spelled_by l.spelling) (all_of l.self) l.limit in
    record {
      there : l.at < length (all_of l.self);
      so_far : onwards l.at (drop l.part-index l.parts) ≡ onwards l.fn.number l.parts;
    }
