use Rattle.std.proofs.Common.{◌∙◌, [], List, Bool, false, get_or, Option, ap, sym}
use Rattle.std.specs.List.{list_any}
use Rattle.type_layout.specs.Schemas.{given}
use Rattle.psdl_lineage.specs.Descent.{home_keys, same_listed}
use Rattle.psdl_lineage.specs.Lineages.{text_of}
use Rattle.psdl_check.proofs.Gathering.{all_off}
use Rattle.psdl_check.proofs.home_keys.HomeKeys.mark_base.Goals as goal

pub returns-in-None-clause-marked : goal.returns-in-None-clause-marked
returns-in-None-clause-marked c l n is lt =
    ap (λ (ms : List Bool). get_or ms n false) c.clear.ensures ∙ all_off c.args.self.now.marks n
    ∙ ap (λ (o : Option _). list_any (same_listed l) (given o [] (home_keys (text_of c.args.self.now.lineage.now)))) (sym c.in-None.is)
