use Rattle.std.proofs.Common.{◌-◌, length}
use Rattle.pss_catalog.specs.inner.Rows.{bases_in}
use Rattle.pss_catalog.proofs.Passes.{own_counts, both_passes}
use Rattle.pss_catalog.proofs.table.fill.Goals as goal

pub place_all-requires : goal.place_all-requires
place_all-requires c = own_counts (length c.args.rows.now - 1) (bases_in c.args.rows.now) c.count_all.new.rows c.count_all.ensures

pub returns : goal.returns
returns c = both_passes c.args.rows.now c.count_all.new.rows c.place_all.new.rows c.count_all.ensures c.count_all.auto.rows c.place_all.ensures
