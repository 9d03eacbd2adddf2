use Rattle.std.proofs.Common.{◌∙◌}
use Rattle.type_layout.specs.Views.{plain_value}
use Rattle.cdr_codec.proofs.Members.{if_ok}
use Rattle.owner_view.specs.Overlay.{changes_in}
use Rattle.owner_view.specs.Views.{seen_with}
use Rattle.owner_view.proofs.Setting.{set_of_gone}
use Rattle.owner_view.proofs.set.set.Goals as goal

pub returns : goal.returns
returns g c = if_ok c.step_of_gone.result _ _
    (λ step is v.
    set_of_gone c.args.view.now.schema.now c.args.level (seen_with v.catalog (changes_in c.args.view.now.overlay.now)) c.args.setting.now.pid c.args.setting.now.member (plain_value c.args.setting.now.value.now) c.deref-in-None.result.now step (c.in-None.ensures v)
    (c.deref-in-None.ensures.value ∙ c.in_ok-references.ensures) is)
    c.step_of_gone.ensures
