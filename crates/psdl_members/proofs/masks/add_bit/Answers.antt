use Rattle.psdl_members.proofs.Tables.{table_put}
use Rattle.psdl_members.proofs.masks.add_bit.Goals as goal

pub returns : goal.returns
returns c n k low =
    table_put c.args.masks.now.items c.make_place.new.masks.items c.args.number c.args.bit c.index.result.now c.with_bit-mask.result c.in_ok-make_place.ensures.place c.make_place.ensures.same c.index.ensures c.with_bit-mask.ensures n k low
