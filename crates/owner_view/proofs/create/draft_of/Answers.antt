use Rattle.std.proofs.Common.{◌≡◌, List, ap, ◌∙◌}
use Rattle.std.specs.List.{flat_map}
use Rattle.pss_base.specs.declared.pid.Pid.{Pid}
use Rattle.pss_catalog.specs.Catalog.{references}
use Rattle.pss_machine.specs.Operations.{Create}
use Rattle.pss_machine.specs.Needs.{needs, targets}
use Rattle.cdr_codec.proofs.Members.{if_ok}
use Rattle.owner_view.specs.Overlay.{changes_in}
use Rattle.owner_view.specs.Keyed.{all_keyed}
use Rattle.owner_view.specs.Seen.{plain_object}
use Rattle.owner_view.specs.Steps.{with_reads, whole_needs}
use Rattle.owner_view.specs.Views.{seen_with}
use Rattle.owner_view.proofs.Drafting.{redrafted}
use Rattle.owner_view.proofs.Needing.{create_needs}
use Rattle.owner_view.proofs.create.draft_of.Goals as goal

pub returns : goal.returns
returns g c = if_ok c.draft_new.result _ _
    (λ draft is v.
    let S = c.args.view.now.schema.now in
    let seen = seen_with v.catalog (changes_in c.args.view.now.overlay.now) in
    let object = plain_object c.args.object.now in
    let same : c.deref.result.now ≡ flat_map references c.args.object.now.record = c.deref.ensures.value ∙ c.in_ok-references.ensures in
    redrafted S seen c.args.serial object _ (needs S c.args.level seen (Create c.args.serial object)) c.deref.result.now (flat_map references c.args.object.now.record) draft
    (ap (λ (l : List Pid). with_reads c.args.level (whole_needs c.args.serial c.args.object.now.home (all_keyed S object)) (targets l)) same ∙ create_needs S c.args.level seen c.args.serial object) same (is v))
    c.draft_new.ensures
