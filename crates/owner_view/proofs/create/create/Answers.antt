use Rattle.std.specs.List.{flat_map}
use Rattle.pss_catalog.specs.Catalog.{references}
use Rattle.pss_machine.specs.Operations.{Create}
use Rattle.pss_machine.specs.Needs.{needs}
use Rattle.owner_view.specs.Overlay.{changes_in}
use Rattle.owner_view.specs.Seen.{plain_object}
use Rattle.owner_view.specs.Views.{seen_with}
use Rattle.owner_view.proofs.create.create.Goals as goal

pub returns : goal.returns
returns g c v =
    let seen = seen_with v.catalog (changes_in c.args.view.now.overlay.now) in
    c.step.ensures c.args.view.now.schema.now seen (needs c.args.view.now.schema.now c.args.level seen (Create c.args.serial (plain_object c.args.object))) (flat_map references c.args.object.record) c.requires.fits c.requires.sized (c.in_ok-draft.ensures v)
