use Rattle.std.proofs.Common.{◌∙◌, ap, List, map, Bool, false, arith}
use Rattle.psdl_lineage.proofs.Marked.{none_later}
use Rattle.psdl_lineage.proofs.marks.Marks.clear.Goals as goal

pub returns-in-Some : goal.returns-in-Some
returns-in-Some c =
    none_later c.self.inside.stamps.items c.self.inside.present c.in-Some.next (omega (arith, c.in-Some.ensures)) c.self.invariant.past
    ∙ ap (λ (l : List Bool). map (λ _. false) l) c.self.view_is
