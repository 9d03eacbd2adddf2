use Rattle.std.proofs.Common.{◌≡◌, ◌/◌, ◌%◌, Some, None, get_or, ap, nat_eq}
use Rattle.recent_table.specs.Turned.{IsTurned}
use Rattle.storage_home.specs.Cells.{TurnsCell}
use Rattle.storage_home.specs.Rows.{object_in, is_reserved_in, row_at, reserved_in, TurnsRow, KeepsRows}
use Rattle.storage_home.proofs.Chunks.{chunk_there, row_reserved, row_kept, objects_stay, one_reserved}
use Rattle.storage_home.proofs.Holding.{on_ok, on_err, on_both}
use Rattle.storage_home.proofs.rows.reserve.Goals as goal

module _ (c : goal.After-rows-in-Some-1) where
  turned : IsTurned nat_eq c.args.rows.now.chunks (c.get_mut.follows.lender c.reserve_in.new.chunk) (c.args.serial / 64) (Some c.reserve_in.new.chunk)
  turned = c.get_mut.follows.holds c.reserve_in.new.chunk (chunk_there c.args.rows.now.chunks c.args.serial c.in-Some.chunk.now c.in-Some.ensures.value)

  reserved :
      TurnsCell c.in-Some.chunk.now c.reserve_in.new.chunk (c.args.serial % 64) (Some (reserved_in (get_or c.in-Some.chunk.now (c.args.serial % 64) None)))
      → TurnsRow c.args.rows.now.chunks (c.get_mut.follows.lender c.reserve_in.new.chunk) c.args.serial (Some (reserved_in (row_at c.args.serial c.args.rows.now.chunks)))
  reserved = row_reserved c.args.rows.now.chunks c.args.serial c.in-Some.chunk.now c.in-Some.ensures.value _ c.reserve_in.new.chunk turned

  kept : c.reserve_in.new.chunk ≡ c.in-Some.chunk.now → KeepsRows c.args.rows.now.chunks (c.get_mut.follows.lender c.reserve_in.new.chunk)
  kept = row_kept c.args.rows.now.chunks c.args.serial c.in-Some.chunk.now c.in-Some.ensures.value _ c.reserve_in.new.chunk turned

pub returns-in-Some-clause-objects : goal.returns-in-Some-clause-objects
returns-in-Some-clause-objects c =
    on_both c.reserve_in.result (on_ok c.reserve_in.result (λ cells. objects_stay _ _ c.args.serial (reserved c cells)) c.reserve_in.ensures.ok)
    (on_err c.reserve_in.result (λ same q. ap object_in (kept c same q)) c.reserve_in.ensures.err)

pub returns-in-Some-clause-ok : goal.returns-in-Some-clause-ok
returns-in-Some-clause-ok c = on_ok c.reserve_in.result (λ cells. one_reserved _ _ c.args.serial (reserved c cells)) c.reserve_in.ensures.ok

pub returns-in-Some-clause-err : goal.returns-in-Some-clause-err
returns-in-Some-clause-err c = on_err c.reserve_in.result (λ same q. ap is_reserved_in (kept c same q)) c.reserve_in.ensures.err
