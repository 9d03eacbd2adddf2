use Rattle.std.proofs.Common.{◌≡◌}
use Rattle.page_format.specs.inner.Packing.{AreFilledUpTo}
use Rattle.page_format.proofs.packing.pack.Given as goal

abbrev pub invariant-loop-put : goal.invariant-loop-put
invariant-loop-put l = record {
  filled : AreFilledUpTo l.puts l.pages.items l.filling;
  end : l.filling.end ≡ l.put-index;
}
