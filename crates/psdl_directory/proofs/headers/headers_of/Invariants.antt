use Rattle.std.proofs.Common.{◌≡◌, map}
use Rattle.std.specs.List.{range_with_len}
use Rattle.psdl_directory.specs.Directories.{all_of}
use Rattle.psdl_directory.specs.Headers.{header}
use Rattle.psdl_directory.proofs.headers.headers_of.Given as goal

abbrev pub invariant-loop-index : goal.invariant-loop-index
invariant-loop-index l = l.headers.items ≡ map (header (all_of l.directory)) (range_with_len 0 l.index)
