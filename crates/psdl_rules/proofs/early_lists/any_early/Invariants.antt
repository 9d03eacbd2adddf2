use Rattle.std.proofs.Common.{◌≡◌, take, false}
use Rattle.std.specs.List.{list_any}
use Rattle.psdl_rules.specs.inner.Early.{is_early}
use Rattle.psdl_rules.proofs.early_lists.any_early.Given as goal

abbrev pub invariant-loop-identifier : goal.invariant-loop-identifier
invariant-loop-identifier l = list_any (is_early l.least) (take l.identifier-index l.identifiers) ≡ false
