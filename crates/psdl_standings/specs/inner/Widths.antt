-- The ranges of the program.
use Rattle.psdl_standings.specs.declared.range.Range.{Range as RangeNode}
use Rattle.psdl_standings.specs.Standings.{Range}

abbrev pub range_view : RangeNode → Range
range_view r = record { least = r.least; most = r.most; width = r.width }
