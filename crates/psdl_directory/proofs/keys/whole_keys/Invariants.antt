use Rattle.std.proofs.Common.{take}
use Rattle.psdl_directory.specs.Lookup.{as_is}
use Rattle.psdl_directory.specs.inner.Keys.{whole, AreKeys}
use Rattle.psdl_directory.proofs.keys.whole_keys.Given as goal

abbrev pub invariant-loop-i : goal.invariant-loop-i
invariant-loop-i l = AreKeys as_is whole l.spellings l.wholes.items (take l.i l.declarations)
