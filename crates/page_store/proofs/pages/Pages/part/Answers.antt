use Rattle.std.proofs.Common.{◌≡◌, ◌∙◌, ◌<◌, ap, sym, subst, cond, not, None, get_or, length, List, ℕ}
use Rattle.std.specs.FinMap as finite
use Rattle.std.specs.declared.option.Option.{Option}
use Rattle.page_store.specs.Checkpoints.{AreSomeOf}
use Rattle.page_store.specs.Kept.{Kept}
use Rattle.page_store.specs.Placed.{is_noted}
use Rattle.page_store.specs.Touched.{is_repacked, under_serials}
use Rattle.page_store.proofs.ByKey.{get_entries}
use Rattle.page_store.proofs.Plans.{filter_below, filter_some}
use Rattle.page_store.proofs.pages.Pages.part.Goals as goal

pub returns-clause-below : goal.returns-clause-below
returns-clause-below c =
    let at = c.self.inside in
    let slots = c.as_slice.ensures in
    subst (λ (l : List ℕ). (k : ℕ) → k < length l → get_or l k 0 < 16384) (sym c.in_ok-parted.ensures.repacked)
    (filter_below (is_repacked (under_serials at.places.entries) c.args.noted.now at.small) c.as_slice.result.now (subst (λ (l : List ℕ). (k : ℕ) → k < length l → get_or l k 0 < 16384) (sym slots) c.self.invariant.2.below))

pub returns-clause-some : goal.returns-clause-some
returns-clause-some c =
    let at = c.self.inside in
    let slots = c.as_slice.ensures in
    let all = slots ∙ ap (λ (k : Kept). k.slots) c.self.view_is in
    subst (λ (l : List ℕ). AreSomeOf l c.in_ok-parted.parted.kept) all
    (subst (λ (l : List ℕ). AreSomeOf c.as_slice.result.now l) (sym c.in_ok-parted.ensures.kept)
    (filter_some (λ s. not (is_repacked (under_serials at.places.entries) c.args.noted.now at.small s)) c.as_slice.result.now
    (subst (λ (l : List ℕ). (j k : ℕ) → j < k → k < length l → get_or l j 0 ≡ get_or l k 0 → ⊥) (sym slots) c.self.invariant.2.once)))

pub returns-clause-places : goal.returns-clause-places
returns-clause-places c q =
    let old = c.self.inside.places.entries in
    get_entries c.part_slots.new.places.entries q ∙ c.in_ok-parted.ensures.places q ∙ ap (λ (s : Option ℕ). cond (is_noted q c.args.noted.now) None s) (sym (get_entries old q) ∙ ap (λ (k : Kept). finite.get k.places q) c.self.view_is)
