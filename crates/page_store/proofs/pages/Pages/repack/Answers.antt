use Rattle.std.proofs.Common.{ℕ, ◌≡◌, ◌∙◌, List, Err, ap, sym, subst}
use Rattle.page_format.specs.Pages.{ArePages}
use Rattle.page_store.specs.declared.stop.PlanStop.TheVariants.{Lost as AreLost}
use Rattle.page_format.proofs.Buffers.{some_weaker}
use Rattle.page_store.proofs.Following.{repacked_is}
use Rattle.page_store.proofs.SomePages.{repacked_pages}
use Rattle.page_store.proofs.pages.Pages.repack.Goals as goal

pub returns-in-Err-reread_with-clause-lost : goal.returns-in-Err-reread_with-clause-lost
returns-in-Err-reread_with-clause-lost g c = λ same.
    let is : c.in-Err-reread_with.stop ≡ AreLost = cc in
    let kept = c.args.self.now in
    let repacked = repacked_is kept c.take_noted-noted.new.self c.part.new.self c.deref.result.now (c.deref.ensures.value ∙ c.take_noted-noted.ensures.noted) c.take_noted-noted.ensures.pages c.as_slice.result.now (c.as_slice.ensures ∙ c.in-Ok.ensures.repacked) in
    some_weaker (g.W.Station.content c.args.w.now) _ _
    (λ content lost old next may small. lost old.root.next small (subst (λ (l : List ℕ). ArePages old.root.next l content) (sym repacked) (repacked_pages old kept next content may))) (c.in-Err-reread_with.ensures.lost (ap Err is))
