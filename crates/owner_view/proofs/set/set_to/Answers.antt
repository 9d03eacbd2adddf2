use Rattle.std.specs.FinMap as map
use Rattle.pss_machine.specs.Needs.{targets}
use Rattle.owner_view.specs.Overlay.{changes_in}
use Rattle.owner_view.specs.Keyed.{all_keyed, keys_of}
use Rattle.owner_view.specs.Seen.{plain_object}
use Rattle.owner_view.specs.Steps.{with_reads, set_needs}
use Rattle.owner_view.specs.Views.{seen_with}
use Rattle.owner_view.proofs.set.set_to.Goals as goal

pub returns : goal.returns
returns g c v =
    let S = c.args.view.now.schema.now in
    let seen = seen_with v.catalog (changes_in c.args.view.now.overlay.now) in
    c.step.ensures S seen (with_reads c.args.level (set_needs c.args.found.now.serial (keys_of S (map.get seen c.args.found.now.serial)) (all_keyed S (plain_object c.args.object))) (targets c.args.references.now)) c.args.references.now c.requires.fits c.requires.sized (c.in_ok-draft.ensures v)
