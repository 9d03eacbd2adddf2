use Rattle.std.proofs.Common.{inl, subst}
use Rattle.page_format.specs.declared.fault.RootFault.{RootFault}
use Rattle.page_format.specs.Refusals.{IsRootRefusal}
use Rattle.pss_recovery.proofs.rooting.of_root.Goals as goal

pub returns-in-NotAStore-clause-refused : goal.returns-in-NotAStore-clause-refused
returns-in-NotAStore-clause-refused c = λ S image h. subst (λ (f : RootFault). IsRootRefusal f image) c.in-NotAStore.is h

pub returns-in-Damaged-clause-refused : goal.returns-in-Damaged-clause-refused
returns-in-Damaged-clause-refused c = λ S image h. inl (subst (λ (f : RootFault). IsRootRefusal f image) c.in-Damaged.is h)
