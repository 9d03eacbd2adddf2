use Rattle.std.proofs.Common.{◌∙◌, ap, ℕ, List, map, Bool, false, sym, vec_len}
use Rattle.psdl_lineage.specs.inner.Marking.{marks_of}
use Rattle.psdl_lineage.proofs.Marked.{none_of}
use Rattle.psdl_lineage.proofs.marks.Marks.begin_anew.Goals as goal

pub returns : goal.returns
returns c =
    ap (λ (l : List ℕ). marks_of 1 l) (c.fill.ensures.items (λ y e. e))
    ∙ none_of c.self.inside.stamps.items (vec_len c.self.inside.stamps) c.self.inside.present (sym c.self.inside.stamps.ok.0)
    ∙ ap (λ (l : List Bool). map (λ _. false) l) c.self.view_is
