use Rattle.std.proofs.Common.{◌∙◌, List, Bool, ap}
use Rattle.pss_base.specs.declared.place.Place.{Place}
use Rattle.psdl_directory.specs.declared.fault.CheckKind.TheVariants.{Limit}
use Rattle.psdl_directory.specs.Declarations.{Declaration}
use Rattle.psdl_directory.specs.Fault.{fault_if}
use Rattle.psdl_directory.specs.Noting.{noting}
use Rattle.psdl_standings.specs.Depths.{is_deep}
use Rattle.psdl_standings.specs.Standings.{standings}
use Rattle.psdl_rules.specs.Texts.{judged}
use Rattle.psdl_rules.proofs.faults.limit.deep_type_at.Goals as goal

pub returns : goal.returns
returns c =
    let all = judged c.args.text.now in
    c.note_if.ensures
    ∙ ap (λ (b : Bool). noting c.args.least.now (fault_if b Limit c.place.result)) (c.is_deep-holds.ensures ∙ ap (λ (ds : List Declaration). is_deep ds (standings ds) c.args.number) c.requires.told)
    ∙ ap (λ (p : Place). noting c.args.least.now (fault_if (is_deep all (standings all) c.args.number) Limit p)) c.place.ensures
