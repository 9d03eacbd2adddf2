use Rattle.std.proofs.Common.{Some, None, ◌∙◌}
use Rattle.owner_view.specs.Overlay.{changes_in}
use Rattle.owner_view.specs.Views.{seen_with}
use Rattle.owner_view.proofs.Asking.{keyed_is}
use Rattle.owner_view.proofs.ask.keyed.Goals as goal

pub returns-in-Some : goal.returns-in-Some
returns-in-Some g c v = c.of_home.ensures v ∙ keyed_is c.args.view.now.schema.now (seen_with v.catalog (changes_in c.args.view.now.overlay.now)) c.args.home c.args.key c.args.bytes.now v.unique (Some c.in-Some.serial) (c.in-Some.ensures v)

pub returns-in-None : goal.returns-in-None
returns-in-None g c v = keyed_is c.args.view.now.schema.now (seen_with v.catalog (changes_in c.args.view.now.overlay.now)) c.args.home c.args.key c.args.bytes.now v.unique None (c.in-None.ensures v)
