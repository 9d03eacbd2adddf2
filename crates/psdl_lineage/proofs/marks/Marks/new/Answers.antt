use Rattle.std.proofs.Common.{◌∙◌, ap, ℕ, List}
use Rattle.psdl_lineage.specs.inner.Marking.{marks_of}
use Rattle.psdl_lineage.proofs.Marked.{none_marked}
use Rattle.psdl_lineage.proofs.marks.Marks.new.Goals as goal

pub returns : goal.returns
returns c = ap (λ (l : List ℕ). marks_of 1 l) (c.in_ok-vec.ensures.items_if_clones_equal (λ y e. e)) ∙ none_marked c.args.count
