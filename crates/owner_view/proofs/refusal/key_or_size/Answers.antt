use Rattle.owner_view.specs.Overlay.{changes_in}
use Rattle.owner_view.specs.Seen.{plain_object}
use Rattle.owner_view.specs.Views.{seen_with}
use Rattle.owner_view.proofs.Refusing.{refused_key, refused_size}
use Rattle.owner_view.proofs.refusal.key_or_size.Goals as goal

pub returns-in-Some : goal.returns-in-Some
returns-in-Some g c v done =
    refused_key c.args.view.now.schema.now (seen_with v.catalog (changes_in c.args.view.now.overlay.now)) c.args.serial (plain_object c.args.object.now) c.args.pairs.now c.requires.pairs done c.in-Some.key (c.in-Some.ensures v)

pub returns-in-None : goal.returns-in-None
returns-in-None g c v done =
    refused_size c.args.view.now.schema.now (seen_with v.catalog (changes_in c.args.view.now.overlay.now)) c.args.serial (plain_object c.args.object.now) c.args.pairs.now c.requires.pairs done c.size.result (c.in-None.ensures v) (c.size.ensures c.args.view.now.schema.now c.requires.sized)
