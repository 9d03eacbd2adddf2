use Rattle.std.proofs.Common.{◌≡◌, drop}
use Rattle.psdl_standings.specs.inner.TextMeasured.{names_length}
use Rattle.psdl_standings.proofs.enumeration_length.with_names.Given as goal

abbrev pub invariant-loop-identifier : goal.invariant-loop-identifier
invariant-loop-identifier l = names_length l.whole.0 (drop l.identifier-index l.names) ≡ names_length l.fn.front.0 l.names
