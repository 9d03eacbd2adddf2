use Rattle.std.proofs.Common.{sym, Some, None}
use Rattle.owner_view.specs.Overlay.{changes_in}
use Rattle.owner_view.specs.Views.{seen_with}
use Rattle.owner_view.proofs.Holding.{other_holds}
use Rattle.owner_view.proofs.view.is_taken.Goals as goal

pub returns-in-Some : goal.returns-in-Some
returns-in-Some g c v = sym (other_holds c.args.view.now.schema.now (seen_with v.catalog (changes_in c.args.view.now.overlay.now)) c.args.key c.args.bytes.now c.args.serial v.unique (Some c.in-Some.held) (c.in-Some.ensures v))

pub returns-in-None : goal.returns-in-None
returns-in-None g c v = sym (other_holds c.args.view.now.schema.now (seen_with v.catalog (changes_in c.args.view.now.overlay.now)) c.args.key c.args.bytes.now c.args.serial v.unique None (c.in-None.ensures v))
