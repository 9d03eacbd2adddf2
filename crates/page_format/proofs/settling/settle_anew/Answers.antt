use Rattle.std.proofs.Common.{◌≡◌, IfOk, subst}
use Rattle.std.proofs.lemmas.List.Sorted.{All-permutation}
use Rattle.std.specs.FinMap.{entries}
use Rattle.page_format.specs.Objects.{IsRightPut, Objects, entries_left, entries_of}
use Rattle.page_format.proofs.settling.settle_anew.Goals as goal

pub settle_sorted-requires : goal.settle_sorted-requires
settle_sorted-requires c = record { climbing = c.in-Ok.ensures.climbing; right = All-permutation IsRightPut _ _ c.in-Ok.ensures.moved c.requires }

pub returns-in-Ok-clause-settled : goal.returns-in-Ok-clause-settled
returns-in-Ok-clause-settled c = subst (λ (m : Objects). IfOk c.settle_sorted.result (λ settled. entries_left settled.items ≡ entries_of (entries m))) c.in-Ok.ensures.same c.settle_sorted.ensures.settled
