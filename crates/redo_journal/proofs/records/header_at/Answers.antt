use Rattle.std.proofs.Common.{refl}
use Rattle.redo_journal.proofs.Pieces.{header_read}
use Rattle.redo_journal.proofs.records.header_at.Goals as goal

pub returns-clause-header : goal.returns-clause-header
returns-clause-header g c =
    let window = c.reach.new.self in
    let covers = c.in_ok-reach.ensures.covers in
    header_read c.args.epoch c.args.gate c.read_header.result window c.ahead.result.now _ (g.W.Station.content c.args.w.now) (g.W.Station.content c.reach.new.w) c.in_ok-reach.ensures.piece c.reach.ensures.reads.same
    covers.0 covers.1 c.ahead.ensures refl c.read_header.ensures.open_ c.read_header.ensures.epoch c.read_header.ensures.len c.read_header.ensures.spelled
