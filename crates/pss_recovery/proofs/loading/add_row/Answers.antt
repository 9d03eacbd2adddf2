use Rattle.std.proofs.Common.{sym, subst}
use Rattle.storage_home.proofs.Holding.{on_ok}
use Rattle.pss_recovery.specs.inner.Adding.{MayMake}
use Rattle.pss_recovery.proofs.Additions.{added, may_make}
use Rattle.pss_recovery.proofs.loading.add_row.Goals as goal

pub make_changes-requires : goal.make_changes-requires
make_changes-requires c = subst (MayMake c.args.homes.now) (sym c.in_ok-changes.ensures) (may_make c.args.homes.now c.args.row c.args.keys c.requires)

pub returns : goal.returns
returns c = on_ok c.make_changes.result (added c.args.homes.now c.make_changes.new.homes c.args.row c.args.keys c.in_ok-changes.changes c.in_ok-changes.ensures) c.make_changes.ensures
