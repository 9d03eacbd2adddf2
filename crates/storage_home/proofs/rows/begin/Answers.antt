use Rattle.std.proofs.Common.{Some}
use Rattle.storage_home.proofs.Chunks.{chunk_begun}
use Rattle.storage_home.proofs.rows.begin.Goals as goal

pub returns-clause-ok : goal.returns-clause-ok
returns-clause-ok c = chunk_begun c.args.rows.now.chunks c.insert-2.new.self c.args.serial (Some c.args.row) c.new-chunk.result c.insert.new.self c.new-chunk.ensures c.requires c.in_ok-insert-2.ensures.ok c.in_ok-insert.ensures.ok
