use Rattle.std.proofs.Common.{◌+◌, ◌*◌}
use Rattle.psdl_syntax.proofs.read.types.+type_specs.Given as goal

abbrev pub decreases-sequence_inner_of : goal.decreases-sequence_inner_of
decreases-sequence_inner_of l = 3 * l.depth + 2

abbrev pub decreases-type_spec_of : goal.decreases-type_spec_of
decreases-type_spec_of l = 3 * l.depth + 1

abbrev pub decreases-sequence_of : goal.decreases-sequence_of
decreases-sequence_of l = 3 * l.depth
