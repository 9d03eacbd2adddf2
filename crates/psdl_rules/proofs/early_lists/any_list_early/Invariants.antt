use Rattle.std.proofs.Common.{◌≡◌, take, false}
use Rattle.std.specs.List.{list_any}
use Rattle.psdl_members.specs.Listings.{identifiers_of_each}
use Rattle.psdl_rules.specs.inner.Early.{list_early}
use Rattle.psdl_rules.proofs.early_lists.any_list_early.Given as goal

abbrev pub invariant-loop-listed : goal.invariant-loop-listed
invariant-loop-listed l = list_any (list_early l.least) (identifiers_of_each (take l.listed-index l.lists)) ≡ false
