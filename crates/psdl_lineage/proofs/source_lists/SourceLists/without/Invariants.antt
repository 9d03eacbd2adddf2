use Rattle.std.proofs.Common.{◌≡◌, ◌≤◌, ℕ, None, length}
use Rattle.psdl_lineage.specs.inner.KeptSources.{list_at, lists_of}
use Rattle.psdl_lineage.proofs.source_lists.SourceLists.without.Given as goal

abbrev pub invariant-loop : goal.invariant-loop
invariant-loop l =
    record {
      within : l.counter ≤ l.count;
      sized : length (lists_of l.kept.items) ≡ l.counter;
      none : (n : ℕ) → list_at (lists_of l.kept.items) n ≡ None;
    }
