use Rattle.std.proofs.Common.{◌≡◌, ◌∙◌, ◌++◌, ◌∷◌, [], List, length, map, get_or, ap, append-nil, append_assoc, length-append, sym, arith, refl}
use Rattle.std.specs.Vec.Iter.{into_iter_items}
use Rattle.page_format.specs.Pages.{Entry}
use Rattle.page_store.specs.Switch.{slots_of}
use Rattle.page_format.specs.declared.new_page.NewPage.{NewPage}
use Rattle.page_store.proofs.Turned.{few_left, map-append, nothing_left, take_end, take_more}
use Rattle.page_store.proofs.placing.new_pages.Goals as goal

pub bounds-slots-k : goal.bounds-slots-k
bounds-slots-k c = few_left _ _ _ _ _ _ _ c.loop-entries.invariant.all c.in-Some.ensures.steps.0 c.loop-entries.invariant.k c.requires.same

pub offset_bounds-slots-k : goal.offset_bounds-slots-k
offset_bounds-slots-k c = let h = few_left _ _ _ _ _ _ _ c.loop-entries.invariant.all c.in-Some.ensures.steps.0 c.loop-entries.invariant.k c.requires.same in omega (arith, h, c.requires.few)

pub overflow_add-k : goal.overflow_add-k
overflow_add-k c = let h = few_left _ _ _ _ _ _ _ c.loop-entries.invariant.all c.in-Some.ensures.steps.0 c.loop-entries.invariant.k c.requires.same in omega (arith, h, c.requires.few)

pub loop-entries-init : goal.loop-entries-init
loop-entries-init c = record { can = tt; finite = tt; all = c.into_iter-entries-iterator.ensures.into_iter_gives.0; k = refl; slots = ap slots_of c.new-new.ensures.items; pages = ap (map (λ (page : NewPage). page.entries)) c.new-new.ensures.items }

pub loop-entries-preserved : goal.loop-entries-preserved
loop-entries-preserved c =
    let at = c.loop-entries in
    let k = at.k in
    let slots = c.args.slots.now in
    let entries : List Entry = c.in-Some.entries in
    let page : NewPage = record { slot = get_or slots k 0; entries = entries } in
    let more : c.push.new.self.items ≡ at.new.items ++ page ∷ [] = c.in_ok-push.ensures.items in
    let h = few_left _ _ _ _ _ _ _ at.invariant.all c.in-Some.ensures.steps.0 at.invariant.k c.requires.same in
    record {
      can = tt;
      finite = tt;
      all = append_assoc at.yielded (entries ∷ []) (into_iter_items c.next.new.self) ∙ ap (λ l. at.yielded ++ l) (sym c.in-Some.ensures.steps.0) ∙ at.invariant.all;
      k = let e = length-append at.yielded (entries ∷ []) in omega (arith, e, at.invariant.k);
      slots = ap slots_of more ∙ map-append (λ (p : NewPage). p.slot) at.new.items (page ∷ []) ∙ ap (λ l. l ++ get_or slots k 0 ∷ []) at.invariant.slots ∙ sym (take_more slots k 0 h);
      pages = ap (map (λ (p : NewPage). p.entries)) more ∙ map-append (λ (p : NewPage). p.entries) at.new.items (page ∷ []) ∙ ap (λ l. l ++ entries ∷ []) at.invariant.pages;
    }

pub returns-clause-slots : goal.returns-clause-slots
returns-clause-slots c =
    let at = c.loop-entries in
    let none = nothing_left (into_iter_items at.entries-iterator) (sym at.entries-iterator.rest.ok.0 ∙ c.in-None.ensures.steps.0) in
    let all : at.yielded ≡ c.args.pages.items = sym (append-nil at.yielded) ∙ ap (λ l. at.yielded ++ l) (sym none) ∙ at.invariant.all in
    let long = ap length all in
    at.invariant.slots ∙ take_end c.args.slots.now at.k (omega (arith, long, at.invariant.k, c.requires.same))

pub returns-clause-pages : goal.returns-clause-pages
returns-clause-pages c =
    let at = c.loop-entries in
    let none = nothing_left (into_iter_items at.entries-iterator) (sym at.entries-iterator.rest.ok.0 ∙ c.in-None.ensures.steps.0) in
    at.invariant.pages ∙ sym (append-nil at.yielded) ∙ ap (λ l. at.yielded ++ l) (sym none) ∙ at.invariant.all
