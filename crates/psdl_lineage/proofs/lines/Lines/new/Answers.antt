use Rattle.std.proofs.Common.{◌∙◌, List, Bool, false, length, ap}
use Rattle.std.proofs.lemmas.List.{length-replicate}
use Rattle.psdl_lineage.proofs.lines.Lines.new.Goals as goal

pub returns : goal.returns
returns c =
    record {
      sized = ap (λ (l : List Bool). length l) c.in_ok-marks.ensures ∙ length-replicate c.len.result false ∙ c.len.ensures;
      of = λ n e. absurd (cc);
    }
