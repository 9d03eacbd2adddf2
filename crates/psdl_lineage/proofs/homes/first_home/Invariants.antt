use Rattle.std.proofs.Common.{◌≡◌, ℕ, drop}
use Rattle.std.specs.List.{find}
use Rattle.psdl_directory.specs.Directories.{all_of}
use Rattle.psdl_directory.specs.Lookup.{at}
use Rattle.psdl_directory.specs.Parts.{is_concrete_home}
use Rattle.psdl_lineage.specs.inner.Meant.{meant_by}
use Rattle.psdl_lineage.proofs.homes.first_home.Given as goal

abbrev pub invariant-loop-used : goal.invariant-loop-used
invariant-loop-used l =
    let test = λ (b : ℕ). is_concrete_home (at (all_of l.directory) b).what in
    find test (meant_by (drop l.used-index l.uses)) ≡ find test (meant_by l.uses)
