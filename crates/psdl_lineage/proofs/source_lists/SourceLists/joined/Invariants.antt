use Rattle.std.proofs.Common.{◌≡◌, ◌==◌, ℕ, take, length, true}
use Rattle.std.specs.List.{flat_map}
use Rattle.std.specs.Option.{is_some}
use Rattle.psdl_lineage.specs.Descent.{has, without_repeats}
use Rattle.psdl_lineage.specs.Graph.{parents_in}
use Rattle.psdl_lineage.specs.Sources.{sources_in}
use Rattle.psdl_lineage.specs.inner.KeptSources.{list_at, AreJoined}
use Rattle.psdl_lineage.specs.inner.SourceTables.{kept_in}
use Rattle.psdl_lineage.proofs.source_lists.SourceLists.joined.Given as goal

abbrev pub invariant-loop-parent : goal.invariant-loop-parent
invariant-loop-parent l =
    let front = take l.parent-index (parents_in l.graph l.number) in
    record {
      sized : length l.marks ≡ length l.graph;
      joined : AreJoined l.marks l.joined.items;
      items : l.joined.items ≡ without_repeats (λ a b. a == b) (flat_map (sources_in l.graph l.own) front);
      named : (p : ℕ) → has front p ≡ true → is_some (list_at (kept_in l.self) p) ≡ true;
    }
