use Rattle.std.proofs.Common.{ap}
use Rattle.std.specs.Prelude.{nat_le}
use Rattle.data_calls.proofs.limits.has_most.Goals as goal

pub returns : goal.returns
returns c k o are there = ap (nat_le c.args.parts.now.limits.changes) (c.changed_count.ensures c.args.parts.now.schema k o are there)
