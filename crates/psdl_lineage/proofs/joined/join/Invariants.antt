use Rattle.std.proofs.Common.{◌≡◌, ◌++◌, ◌==◌, take, length}
use Rattle.psdl_lineage.specs.Descent.{without_repeats}
use Rattle.psdl_lineage.specs.inner.KeptSources.{AreJoined}
use Rattle.psdl_lineage.proofs.joined.join.Given as goal

abbrev pub invariant-loop-number : goal.invariant-loop-number
invariant-loop-number l =
    record {
      sized : length l.marks ≡ length l.initial.marks;
      joined : AreJoined l.marks l.joined.items;
      items : l.joined.items ≡ without_repeats (λ a b. a == b) (l.initial.joined.items ++ take l.number-index l.numbers);
    }
