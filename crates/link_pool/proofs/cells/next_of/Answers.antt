use Rattle.std.proofs.Common.{Some, sym, ap, ◌∙◌}
use Rattle.link_pool.proofs.Sound.{sound_at}
use Rattle.link_pool.proofs.Told.{next_told}
use Rattle.link_pool.proofs.cells.next_of.Goals as goal

pub returns : goal.returns
returns g c =
    next_told c.args.side c.args.cells.now (sound_at c.args.side c.args.cells.now c.requires.sound) c.args.node c.seat_of.result.now c.seat_of.ensures c.head-head.result c.link_at.result.next c.head-head.ensures c.link_at.ensures.next ∙ ap Some (sym c.place_of.ensures)
