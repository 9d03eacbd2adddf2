use Rattle.std.proofs.Common.{is_some, sym, ap, ◌∙◌}
use Rattle.owner_view.specs.States.{slot_state}
use Rattle.owner_view.proofs.Stating.{get-changes_of, changes_turned}
use Rattle.owner_view.proofs.overlay.Overlay.put_reserved.Goals as goal

pub returns-clause-before : goal.returns-clause-before
returns-clause-before c = c.put-before.ensures.before ∙ ap is_some (sym (get-changes_of c.args.self.now.states c.args.serial))

pub returns-clause-changes : goal.returns-clause-changes
returns-clause-changes c = changes_turned c.args.self.now.states c.put-before.new.states c.args.serial (slot_state c.args.slot) c.put-before.ensures.turned
