use Rattle.std.proofs.Common.{◌≡◌, ◌*◌, length}
use Rattle.psdl_members.specs.inner.Heirs.{AreMet}
use Rattle.psdl_members.proofs.heirs.Heirs.tell_parts.Given as goal

abbrev pub invariant-loop-index : goal.invariant-loop-index
invariant-loop-index l =
    record {
      seen : length l.seen.items ≡ length l.self.heirs.items;
      sized : length l.clashes.items ≡ length l.self.heirs.items;
      met : AreMet l.self.graph.now l.self.rows.now l.self.claims.columns.items l.fn.clashes.items (length l.self.heirs.items) (l.index * 64) l.clashes.items;
    }
