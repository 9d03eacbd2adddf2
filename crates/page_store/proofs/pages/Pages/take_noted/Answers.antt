use Rattle.std.proofs.Common.{rules, ◌≡◌, [], List, subst, sym}
use Rattle.pss_base.specs.declared.put.Put.{Put}
use Rattle.page_format.specs.inner.Settling.{AreSettled}
use Rattle.page_format.proofs.Settled.{settled_none}
use Rattle.page_store.proofs.pages.Pages.take_noted.Goals as goal

pub invariant_of-self : goal.invariant_of-self
invariant_of-self c =
    let none : c.replace-2.new.dest.items ≡ [] = search rules in
    (search rules, search rules, search rules, λ settled. subst (λ (l : List Put). AreSettled l 1 l) (sym none) (settled_none 1))
