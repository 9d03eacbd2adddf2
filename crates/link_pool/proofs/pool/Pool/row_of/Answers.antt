use Rattle.std.proofs.Common.{ap}
use Rattle.std.specs.Option.{option_map}
use Rattle.link_pool.proofs.Told.{seat_found, seat_told}
use Rattle.link_pool.proofs.pool.Pool.row_of.Goals as goal

pub seat_of-requires : goal.seat_of-requires
seat_of-requires g c = seat_found c.self.inside.cells c.self.inside.promised c.args.self.now c.self.view_is c.args.node c.requires

pub returns : goal.returns
returns g c = ap (option_map (λ seat. seat.row)) (seat_told c.self.inside.cells c.self.inside.promised c.args.self.now c.self.view_is c.args.node c.seat_of.result.now c.seat_of.ensures)
