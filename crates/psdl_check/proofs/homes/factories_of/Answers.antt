use Rattle.std.proofs.Common.{◌∙◌, List, ap}
use Rattle.type_layout.specs.Factories.{factories_held}
use Rattle.psdl_lineage.specs.Descent.{home_factories}
use Rattle.psdl_standings.specs.Standings.{standings}
use Rattle.psdl_check.specs.Schemas.{home_layout}
use Rattle.psdl_check.specs.inner.FactoryTexts.{factories_text}
use Rattle.psdl_check.proofs.Homing.{factories_are}
use Rattle.psdl_check.proofs.homes.factories_of.Goals as goal

pub returns : goal.returns
returns c has =
    let all = factories_text c.args.factories.now in
    c.new.ensures
    ∙ ap (λ (ns : List _). factories_held ns c.in_ok-held.held) (c.in_ok-names.ensures ∙ has)
    ∙ factories_are (home_layout all (standings all) c.args.home) c.in_ok-held.held (home_factories all c.args.home) c.in_ok-held.ensures
