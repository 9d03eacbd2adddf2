use Rattle.std.proofs.Common.{refl}
use Rattle.owner_view.proofs.OneOwner.{nothing_under, nothing_changed, nothing_counted}
use Rattle.owner_view.proofs.owned.Owned.new.Goals as goal

pub returns-clause-changes : goal.returns-clause-changes
returns-clause-changes c = nothing_changed (record { level = c.args.level; overlay = c.new.result; changed = 0 }) c.new.ensures.slots

pub returns-clause-counted : goal.returns-clause-counted
returns-clause-counted c = nothing_counted (record { level = c.args.level; overlay = c.new.result; changed = 0 }) (nothing_changed (record { level = c.args.level; overlay = c.new.result; changed = 0 }) c.new.ensures.slots) refl

pub returns-clause-under : goal.returns-clause-under
returns-clause-under c = nothing_under (record { level = c.args.level; overlay = c.new.result; changed = 0 }) c.new.ensures.slots c.new.ensures.indexes
