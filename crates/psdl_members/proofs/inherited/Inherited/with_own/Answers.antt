use Rattle.std.proofs.Common.{◌≡◌, length, map}
use Rattle.std.specs.List.{range_with_len}
use Rattle.psdl_lineage.specs.Graph.{graph_of}
use Rattle.psdl_lineage.specs.Lineages.{text_of}
use Rattle.psdl_members.specs.inner.Had.{has_own}
use Rattle.psdl_members.proofs.Owning.{are_flags, fits_by}
use Rattle.psdl_members.proofs.inherited.Inherited.with_own.Goals as goal

pub invariant_of-result : goal.invariant_of-result
invariant_of-result c =
    let all = text_of c.args.lineage.now in
    let flags : c.in_ok-flags.flags.items ≡ map (has_own c.args.own) (range_with_len 0 (length all)) = rw c.directory.ensures at c.in_ok-flags.ensures in
    record {
      graphed = c.in_ok-sources.ensures.graph;
      flagged = rw c.in_ok-sources.ensures.own (are_flags all c.args.own c.in_ok-flags.flags.items c.requires flags);
      had = c.requires;
      fits = fits_by c.args.own c.in_ok-firsts.firsts c.most_names.result c.most_names.ensures c.in_ok-firsts.ensures;
      told = c.new-clashes.ensures (graph_of all) c.args.own.lists;
    }
