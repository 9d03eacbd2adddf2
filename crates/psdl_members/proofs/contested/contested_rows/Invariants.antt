use Rattle.std.proofs.Common.{◌≡◌, filter}
use Rattle.psdl_members.specs.inner.Contested.{is_contested}
use Rattle.psdl_members.specs.inner.Flat.{flat, begins}
use Rattle.psdl_members.specs.inner.Rowed.{row_of}
use Rattle.psdl_members.proofs.contested.contested_rows.Given as goal

abbrev pub invariant-loop-index : goal.invariant-loop-index
invariant-loop-index l =
    record {
      items : l.entries.items ≡ flat (λ n. filter (is_contested l.lists) (row_of l.rows n)) l.index;
      starts : l.starts.items ≡ begins (λ n. filter (is_contested l.lists) (row_of l.rows n)) l.index;
    }
