use Rattle.std.proofs.Common.{List, drop}
use Rattle.pss_base.specs.declared.owner.OwnerNo.{OwnerNo}
use Rattle.lock_table.specs.inner.Links.{IsLinked, SameNodes, EmptyRows, EmptyCols, resources}
use Rattle.lock_table.proofs.grants.drop_empty_places.Given as goal

abbrev pub invariant-loop-at : goal.invariant-loop-at
invariant-loop-at l = record { nodes : SameNodes l.fn.links l.links; linked : IsLinked l.links; rows : EmptyRows l.links (resources (drop l.at l.locks)); cols : (keys : List OwnerNo) → EmptyCols l.fn.links keys → EmptyCols l.links keys }
