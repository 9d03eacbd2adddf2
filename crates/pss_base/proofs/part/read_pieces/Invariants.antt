use Rattle.std.proofs.Common.{◌≡◌, ◌-◌, IsTrue}
use Rattle.std.specs.Io.KnownBytes.{prepend_known}
use Rattle.pss_base.specs.Reading.{holds_line}
use Rattle.pss_base.proofs.Taking.{Taken}
use Rattle.pss_base.proofs.part.read_pieces.Given as goal

abbrev pub invariant-pieces : goal.invariant-pieces
invariant-pieces g l = record {
  taken : Taken (prepend_known l.fn.ahead (g.C.Source.left l.fn.source)) (prepend_known l.ahead (g.C.Source.left l.source)) l.text l.count l.most;
  unread : IsTrue (holds_line l.most l.fn.ahead) → (l.source ≡ l.fn.source) × (l.ahead ≡ l.fn.ahead) × (l.count ≡ 0);
  cause : g.C.Source.faults l.source ≡ g.C.Source.faults l.fn.source;
}

abbrev pub decreases-pieces : goal.decreases-pieces
decreases-pieces g l = l.most - l.count
