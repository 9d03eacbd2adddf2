use Rattle.std.proofs.Common.{Some}
use Rattle.storage_home.proofs.Chunks.{chunk_there, cell_there, row_put, never_none}
use Rattle.storage_home.proofs.rows.write.Goals as goal

pub write-requires-clause-there : goal.write-requires-clause-there
write-requires-clause-there c = cell_there c.args.rows.now.chunks c.args.serial c.in-Some.chunk.now c.in-Some.ensures.value c.requires

pub unreachable-requires : goal.unreachable-requires
unreachable-requires c = never_none c.args.rows.now.chunks c.args.serial c.requires c.in-None.ensures.value

pub returns : goal.returns
returns c =
    let old = c.args.rows.now.chunks in
    let s = c.args.serial in
    let before = c.in-Some.chunk.now in
    let is = c.in-Some.ensures.value in
    row_put old s before is _ c.write.new.self (c.get_mut.follows.holds c.write.new.self (chunk_there old s before is)) (Some c.args.row) c.write.ensures
