use Rattle.std.proofs.Common.{◌≡◌, map, take}
use Rattle.psdl_members.specs.Listings.{listed_views}
use Rattle.psdl_check.specs.inner.Declaring.{declared_as}
use Rattle.psdl_check.proofs.home_factories.declared_list.Given as goal

abbrev pub invariant-loop-listed : goal.invariant-loop-listed
invariant-loop-listed l = l.list.items ≡ map declared_as (listed_views (take l.listed-index l.lists))
