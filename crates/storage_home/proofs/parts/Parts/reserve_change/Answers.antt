use Rattle.std.proofs.Common.{◌≤◌, length, sym, subst, rules, IsSome}
use Rattle.storage_home.proofs.parts.Parts.reserve_change.Goals as goal

pub reserve_serial-requires-clause-there : goal.reserve_serial-requires-clause-there
reserve_serial-requires-clause-there c =
    subst (λ e. c.args.change.now.put.home ≤ length e.items) (sym c.reserve_keys.ensures.extents) (c.requires (subst IsSome (sym c.in-Some.is) (search rules))).1
