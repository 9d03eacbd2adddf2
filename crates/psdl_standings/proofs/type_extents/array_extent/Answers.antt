use Rattle.psdl_standings.proofs.Measuring.{array_measured}
use Rattle.psdl_standings.proofs.type_extents.array_extent.Goals as goal

pub returns : goal.returns
returns c types are = array_measured types c.args.extents.now c.args.item c.args.count _ c.repeated.result are c.requires c.repeated.ensures
