use Rattle.std.proofs.Common.{◌≡◌, ◌*◌, length, IfSome, IsSome}
use Rattle.pss_recovery.specs.Silence.{IsSilent}
use Rattle.pss_recovery.specs.inner.Blanks.{IsBlank}
use Rattle.pss_recovery.proofs.clearing.clear.Given as goal

abbrev pub invariant-pieces : goal.invariant-pieces
invariant-pieces g l = record {
  at_ : l.at ≡ l.k * length l.piece;
  blank : IfSome (g.W.Station.content l.w) (IsBlank l.at);
  told : IsSome (g.W.Station.content l.fn.w) → IsSome (g.W.Station.content l.w);
  silent : IsSilent g.W.Station.now g.W.Station.history g.W.Station.speak_faults l.fn.w l.w;
  cause : g.W.Station.disk_faults l.w ≡ g.W.Station.disk_faults l.fn.w;
}
