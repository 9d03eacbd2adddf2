use Rattle.std.proofs.Common.{inl, inr, subst}
use Rattle.page_format.specs.declared.fault.PageFault.{PageFault}
use Rattle.page_format.specs.Refusals.{IsPageRefusal}
use Rattle.pss_recovery.proofs.paging.of_pages.Goals as goal

pub returns-in-Damaged-clause-refused : goal.returns-in-Damaged-clause-refused
returns-in-Damaged-clause-refused c = λ S root image rooted h. inr (inl (record { root = root; rooted = rooted; wrong = subst (λ (f : PageFault). IsPageRefusal root.next root.slots f image) c.in-Damaged.is h }))
