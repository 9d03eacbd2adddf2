use Rattle.std.proofs.Common.{take}
use Rattle.type_layout.specs.inner.Searches.{AreEntered}
use Rattle.type_layout.proofs.factory_names.enter_all.Given as goal

abbrev pub invariant-loop-factory : goal.invariant-loop-factory
invariant-loop-factory l = AreEntered l.fn.names l.names (take l.factory-index l.declared) l.number
