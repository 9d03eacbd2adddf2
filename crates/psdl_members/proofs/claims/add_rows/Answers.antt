use Rattle.std.proofs.Common.{◌∙◌, nat_lt, arith}
use Rattle.psdl_members.specs.inner.Below.{AreBelow}
use Rattle.psdl_members.specs.inner.Claims.{HasMore}
use Rattle.psdl_members.specs.inner.Rowed.{row_of}
use Rattle.psdl_members.proofs.Claiming.{no_rows, row_more, rows_all}
use Rattle.psdl_members.proofs.Covered.{all_piece}
use Rattle.psdl_members.proofs.claims.add_rows.Goals as goal

pub loop-index-init : goal.loop-index-init
loop-index-init c = record { sized = c.requires.sized; rows = no_rows c.args.rows.now c.args.claims.now.items c.requires.none }

pub add_claims-requires : goal.add_claims-requires
add_claims-requires c =
    let rows = c.args.rows.now in
    let below : AreBelow rows.names (row_of rows c.loop-index.index) = all_piece (λ e. nat_lt e.name rows.names) rows.starts.items c.loop-index.index rows.entries.items rows.below in
    rw (c.loop-index.invariant.sized, c.of.ensures) below

pub loop-index-preserved : goal.loop-index-preserved
loop-index-preserved c =
    let rows = c.args.rows.now in
    let more : HasMore c.loop-index.claims.items c.add_claims.new.claims.items c.loop-index.index (row_of rows c.loop-index.index) = rw c.of.ensures at c.in_ok-add_claims.ensures.more in
    record {
      sized = c.add_claims.ensures.sized ∙ c.loop-index.invariant.sized;
      rows = row_more rows c.loop-index.claims.items c.add_claims.new.claims.items c.loop-index.index c.loop-index.invariant.rows more;
    }

pub returns : goal.returns
returns c = rows_all c.args.rows.now c.loop-index.claims.items c.loop-index.index (λ n past. c.len-index-end.ensures n (omega (arith, past, c.loop-index-test.false))) c.loop-index.invariant.rows
