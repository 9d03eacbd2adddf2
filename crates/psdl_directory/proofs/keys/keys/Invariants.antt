use Rattle.std.proofs.Common.{take}
use Rattle.psdl_directory.specs.Spelled.{Keeps, spelled_by}
use Rattle.psdl_directory.specs.inner.Keys.{plain, AreKeys}
use Rattle.psdl_directory.proofs.keys.keys.Given as goal

abbrev pub invariant-loop-declaration : goal.invariant-loop-declaration
invariant-loop-declaration l =
    record {
      keys : AreKeys (spelled_by l.spelling) plain l.spellings l.keys.items (take l.declaration-index l.declarations);
      kept : Keeps l.fn.spellings l.spellings;
    }
