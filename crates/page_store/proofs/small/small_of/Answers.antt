use Rattle.std.proofs.Common.{◌∙◌, ◌≡◌, ◌-◌, ◌<◌, ap, arith, get_or, length, sym}
use Rattle.page_format.specs.Packing.{used_by}
use Rattle.page_store.specs.Switch.{uses_of}
use Rattle.page_format.specs.declared.new_page.NewPage.{NewPage}
use Rattle.page_store.proofs.Plans.{at_mapped, large_all, use_at}
use Rattle.page_store.proofs.small.small_of.Goals as goal

pub returns-then-used-le-LITTLE : goal.returns-then-used-le-LITTLE
returns-then-used-le-LITTLE c =
    let pages = c.args.pages.now in
    let k = length pages - 1 in
    let page = c.in-Some.page.now in
    let lt : k < length pages = omega (arith, c.in-Some.ensures.item.3.0) in
    let is = sym c.in-Some.ensures.item.1 in
    let used : get_or (uses_of pages) k 0 ≡ used_by page.entries = use_at pages k page lt ∙ ap (λ (p : NewPage). used_by p.entries) is in
    (k, lt, at_mapped (λ (p : NewPage). p.slot) pages k page lt ∙ ap (λ (p : NewPage). p.slot) is, omega (arith, used, c.used.ensures.used, c.if-used-le-LITTLE.true))

pub returns : goal.returns
returns c = large_all c.args.pages.now c.in-Some.page.now c.requires.large c.in-Some.ensures.item.1 (omega (arith, c.used.ensures.used, c.if-used-le-LITTLE.false))
