use Rattle.std.proofs.Common.{refl, ap}
use Rattle.std.specs.Option.{option_map}
use Rattle.lock_table.proofs.Emptied.{place_dropped}
use Rattle.lock_table.proofs.rings.remove_place.Goals as goal

pub returns-clause-drops : goal.returns-clause-drops
returns-clause-drops c resource linked found =
    place_dropped c.args.links.now (record c.args.links.now { pool = c.remove_row.new.self; places = c.remove.new.places }) linked resource c.args.found.place.row (ap (option_map (λ place. place.row)) found.place) c.requires (c.remove.ensures resource found.at) c.remove_row.ensures.removed refl refl c.remove_row.ensures.rings
