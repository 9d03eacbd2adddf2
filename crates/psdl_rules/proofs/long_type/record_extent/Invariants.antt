use Rattle.std.proofs.Common.{◌≡◌, drop}
use Rattle.type_layout.specs.Types.{Octet}
use Rattle.psdl_standings.specs.Extents.{extent, extent_view}
use Rattle.psdl_standings.specs.Texts.{types_in}
use Rattle.psdl_rules.specs.inner.Typed.{default_types, defaults_extent}
use Rattle.psdl_rules.proofs.long_type.record_extent.Given as goal

abbrev pub invariant-loop-entry : goal.invariant-loop-entry
invariant-loop-entry l =
    defaults_extent (default_types (types_in l.standings) (drop l.entry-index l.kept)) (extent_view l.whole) ≡ defaults_extent (default_types (types_in l.standings) l.kept) (extent Octet)
