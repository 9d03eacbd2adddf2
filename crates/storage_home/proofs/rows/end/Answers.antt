use Rattle.storage_home.proofs.Chunks.{chunk_ended}
use Rattle.storage_home.proofs.rows.end.Goals as goal

pub returns-then-is_done : goal.returns-then-is_done
returns-then-is_done c = chunk_ended c.args.rows.now.chunks c.remove.new.self c.args.number (c.is_done.ensures c.if-is_done.true) c.remove.ensures.turned
