-- Faults that are noted part by part.
use Rattle.std.proofs.lemmas.Grind.{common_steps, flat_map-append}
use Rattle.psdl_directory.proofs.Noting.{noting-append, late}

pub ruleset by_parts = (common_steps, flat_map-append, noting-append)

-- where a fault may be late
pub ruleset by_order = (common_steps, late)
