use Rattle.std.proofs.Common.{◌++◌, ℕ, List, take}
use Rattle.psdl_directory.specs.Spelled.{Keeps}
use Rattle.psdl_lineage.specs.Descent.{names_of}
use Rattle.psdl_members.specs.inner.Entries.{AreSpelled}
use Rattle.psdl_members.proofs.spelled.add_numbers.Given as goal

abbrev pub invariant-loop-identifier : goal.invariant-loop-identifier
invariant-loop-identifier l =
    record {
      spelled : (names : List (List ℕ)) → AreSpelled l.fn.spellings l.fn.numbers.items names → AreSpelled l.spellings l.numbers.items (names ++ names_of (take l.identifier-index l.identifiers));
      kept : Keeps l.fn.spellings l.spellings;
    }
