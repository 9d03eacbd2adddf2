use Rattle.std.proofs.Common.{rules, List, subst, sym}
use Rattle.pss_base.specs.declared.put.Put.{Put}
use Rattle.page_format.specs.inner.Settling.{AreSettled}
use Rattle.page_format.proofs.Settled.{settled_none}
use Rattle.page_store.proofs.pages.pages_of.Goals as goal

pub invariant_of-result : goal.invariant_of-result
invariant_of-result c = (search rules, search rules, search rules, λ settled. subst (λ (l : List Put). AreSettled l 1 l) (sym c.new.ensures.items) (settled_none 1))
