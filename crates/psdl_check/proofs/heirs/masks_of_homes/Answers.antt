use Rattle.std.proofs.Common.{List, ℕ, subst, ◌∙◌, ap, map}
use Rattle.psdl_lineage.specs.Descent.{concrete_homes}
use Rattle.psdl_check.specs.inner.Masks.{type_mask}
use Rattle.psdl_check.specs.inner.Texts.{text_in}
use Rattle.psdl_check.proofs.Masks.{AreAllTold, by_types}
use Rattle.psdl_check.proofs.heirs.masks_of_homes.Goals as goal

pub returns : goal.returns
returns c =
    let all = text_in c.args.text.now in
    let masks : List ℕ = c.in_ok-masks.masks.items in
    by_types all c.args.group masks c.in_ok-kept.kept.items
    (subst (λ (g : List (List ℕ)). AreAllTold g c.args.group masks) c.graph.ensures.graph c.in_ok-masks.ensures)
    (c.in_ok-kept.ensures ∙ ap (λ (ms : List ℕ). map (type_mask all ms) (concrete_homes all)) c.deref.ensures.value)
