use Rattle.std.proofs.Common.{◌∙◌, ◌<◌, ap, sym, subst, get_or, length, List, ℕ}
use Rattle.std.specs.FinMap as finite
use Rattle.std.specs.declared.option.Option.{Option}
use Rattle.page_store.specs.Kept.{Kept}
use Rattle.page_store.specs.Placed.{placed, slot_under}
use Rattle.page_format.specs.declared.new_page.NewPage.{NewPage}
use Rattle.page_store.proofs.ByKey.{get_entries}
use Rattle.page_store.proofs.Plans.{writable_from}
use Rattle.page_store.proofs.pages.Pages.place.Goals as goal

pub returns-clause-places : goal.returns-clause-places
returns-clause-places c q =
    let old = c.self.inside.places.entries in
    get_entries c.place_pages.new.places.entries q ∙ c.in_ok-place_pages.ensures q ∙ ap (λ (pages : List NewPage). placed pages q (slot_under q old)) c.deref.ensures.value
    ∙ ap (λ (s : Option ℕ). placed c.in_ok-pages.pages.items q s) (sym (get_entries old q) ∙ ap (λ (k : Kept). finite.get k.places q) c.self.view_is)

pub returns-clause-writable : goal.returns-clause-writable
returns-clause-writable c =
    let slots = c.in_ok-pages.ensures.slots ∙ c.as_slice-2.ensures in
    writable_from c.in_ok-pages.pages.items c.args.packed.items c.in_ok-pages.ensures.pages c.requires.written
    (subst (λ (l : List ℕ). (k : ℕ) → k < length l → get_or l k 0 < 16384) (sym slots) c.in_ok-free.ensures.below)
