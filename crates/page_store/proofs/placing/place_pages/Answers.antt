use Rattle.std.proofs.Common.{◌∙◌, ◌++◌, ◌∷◌, [], ℕ, List, ap, take, sym}
use Rattle.std.specs.declared.option.Option.{Option}
use Rattle.page_store.specs.Placed.{placed, slot_under}
use Rattle.page_format.specs.declared.new_page.NewPage.{NewPage}
use Rattle.page_store.proofs.Turned.{placed-append, take_more}
use Rattle.page_store.proofs.placing.place_pages.Goals as goal

pub loop-page-preserved : goal.loop-page-preserved
loop-page-preserved c q =
    let page : NewPage = c.page-item.result in
    let pages = c.args.pages.now in
    let i = c.loop-page.page-index in
    let before = slot_under q c.args.places.now.entries in
    c.in-Ok.ensures q
    ∙ ap (λ (s : Option ℕ). placed (page ∷ []) q s) (c.loop-page.invariant q) ∙ sym (placed-append (take i pages) (page ∷ []) q before)
    ∙ ap (λ (ps : List NewPage). placed ps q before) (sym (take_more pages i page c.loop-page-test.true ∙ ap (λ (p : NewPage). take i pages ++ p ∷ []) (sym c.page-item.is)))
