use Rattle.std.proofs.Common.{◌≡◌, List, map, take}
use Rattle.type_layout.specs.Types.{PlainType}
use Rattle.psdl_standings.specs.inner.Levels.{depth}
use Rattle.psdl_standings.specs.inner.Measured.{IsLevelled}
use Rattle.psdl_standings.specs.inner.Tellings.{stand}
use Rattle.psdl_standings.proofs.nesting.told_levels.Given as goal

abbrev pub invariant-loop-one : goal.invariant-loop-one
invariant-loop-one l = (types : List PlainType) → IsLevelled types l.levels → l.nested.items ≡ map depth (map (stand types) (take l.one-index l.told))
