use Rattle.std.proofs.Common.{◌≡◌, ◌∙◌, ℕ, List, ap, sym}
use Rattle.psdl_lineage.specs.Graph.{conforms_in}
use Rattle.psdl_lineage.specs.Lineages.{text_of}
use Rattle.psdl_lineage.proofs.Texts.{conforms_is}
use Rattle.psdl_lineage.proofs.conformity.Conformity.conforms.Goals as goal

pub returns-clause-conforms : goal.returns-clause-conforms
returns-clause-conforms c =
    let told : c.in_ok-conforms.conforms ≡ conforms_in c.args.self.now.asked c.args.from c.args.to = rw (c.index.ensures, c.index-2.ensures) at c.in_ok-conforms.ensures.conforms in
    told
    ∙ ap (λ (g : List (List ℕ)). conforms_in g c.args.from c.args.to) c.args.self.now.same
    ∙ sym (conforms_is (text_of c.args.self.now.lineage.now) c.args.from c.args.to)
