use Rattle.std.proofs.Common.{◌≡◌, take}
use Rattle.psdl_members.specs.Listings.{listed_views}
use Rattle.psdl_check.specs.inner.KeyIds.{KeepsIds, own_views, HaveIds}
use Rattle.psdl_check.proofs.key_rows.with_ids.Given as goal

abbrev pub invariant-loop-listed : goal.invariant-loop-listed
invariant-loop-listed l =
    record {
      views : own_views l.keys.items ≡ listed_views (take l.listed-index l.lists);
      ids : HaveIds l.ids l.keys.items;
      kept : KeepsIds l.fn.ids l.ids;
    }
