use Rattle.std.proofs.Common.{◌∙◌, ap, List, Bool, true, slice_set}
use Rattle.psdl_lineage.proofs.Marked.{marked_at}
use Rattle.psdl_lineage.proofs.marks.Marks.mark.Goals as goal

pub returns : goal.returns
returns c =
    marked_at c.self.inside.stamps.items c.args.number c.self.inside.present
    ∙ ap (λ (l : List Bool). slice_set l c.args.number true) c.self.view_is
