use Rattle.std.proofs.Common.{ap}
use Rattle.std.specs.Prelude.{nat_le}
use Rattle.data_calls.proofs.Granted.{entries_counted}
use Rattle.data_calls.proofs.limits.is_full.Goals as goal

pub returns : goal.returns
returns c k at there = ap (nat_le c.args.parts.now.limits.entries) (entries_counted c.args.parts.now k at c.args.session there c.entries_of.result c.entries_of.ensures)
