use Rattle.std.proofs.Common.{sym, ◌∙◌}
use Rattle.owner_view.proofs.Stating.{get-changes_of}
use Rattle.owner_view.proofs.overlay.Overlay.told.Goals as goal

pub returns : goal.returns
returns c = c.told_at.ensures ∙ sym (get-changes_of c.args.self.now.states c.args.serial)
