use Rattle.std.proofs.Common.{◌≡◌, ◌∙◌, ℕ, length, ap, arith}
use Rattle.psdl_directory.specs.Directories.{all_of}
use Rattle.psdl_lineage.specs.Graph.{rows_before}
use Rattle.psdl_lineage.specs.inner.Rows.{rows_of}
use Rattle.psdl_lineage.proofs.Texts.{all_rows, are_graph}
use Rattle.psdl_lineage.proofs.Naming.{header_at, as_many, row_is, row_more}
use Rattle.psdl_lineage.proofs.parents.graph_of.Goals as goal

pub loop-index-preserved : goal.loop-index-preserved
loop-index-preserved c =
    let all = all_of c.args.directory.now in
    record {
      within = omega (arith, c.loop-index-test.true);
      rows =
          row_more all c.loop-index.rows.items c.in_ok-row.row c.push.new.self.items c.loop-index.index c.in_ok-push.ensures.items c.loop-index.invariant.rows
          (row_is all c.loop-index.index c.index-headers-index.result c.in_ok-row.row.items (c.index-headers-index.is ∙ header_at all c.args.headers.now c.loop-index.index c.index-headers-index.result c.requires c.loop-index-test.true) (rw c.new.ensures at c.in_ok-row.ensures));
    }

pub new-requires-2 : goal.new-requires-2
new-requires-2 c =
    let all = all_of c.args.directory.now in
    let end : c.loop-index.index ≡ length all = omega (arith, c.loop-index-test.false, c.loop-index.invariant.within, as_many all c.args.headers.now c.requires) in
    are_graph all (rows_of c.loop-index.rows.items) (all_rows all (rows_of c.loop-index.rows.items) (c.loop-index.invariant.rows ∙ ap (λ (n : ℕ). rows_before all n) end))

pub returns : goal.returns
returns c =
    let all = all_of c.args.directory.now in
    let end : c.loop-index.index ≡ length all = omega (arith, c.loop-index-test.false, c.loop-index.invariant.within, as_many all c.args.headers.now c.requires) in
    c.new-2.ensures ∙ all_rows all (rows_of c.loop-index.rows.items) (c.loop-index.invariant.rows ∙ ap (λ (n : ℕ). rows_before all n) end)
