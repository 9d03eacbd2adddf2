use Rattle.owner_view.proofs.Stating.{changes_kept}
use Rattle.owner_view.proofs.overlay.Overlay.reserve.Goals as goal

pub returns-in_err-reserve-clause-changes : goal.returns-in_err-reserve-clause-changes
returns-in_err-reserve-clause-changes c = changes_kept c.args.self.now.states c.reserve.new.states c.reserve.ensures.kept

pub returns-clause-changes : goal.returns-clause-changes
returns-clause-changes c = changes_kept c.args.self.now.states c.reserve.new.states c.reserve.ensures.kept
