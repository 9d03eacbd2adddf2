use Rattle.std.proofs.Common.{sym, ap, ◌∙◌}
use Rattle.std.specs.Prelude.{map, sum}
use Rattle.std.specs.FinMap.{entries}
use Rattle.std.specs.FinSet as set
use Rattle.lock_table.proofs.Owning.{same_counts}
use Rattle.tx_session.specs.Owners.{owners_in}
use Rattle.tx_session.proofs.owners.Owners.held.Goals as goal

pub returns : goal.returns
returns c =
    c.held.ensures ∙ sym (same_counts (owners_in c.self.inside.parts) c.self.inside.parts.locks c.self.invariant.locks) ∙ ap (λ parts. sum (map (λ e. set.len e.1.locks) (entries (owners_in parts)))) c.self.view_is
