use Rattle.std.specs.Io.KnownBytes.{Keeps}
use Rattle.pss_base.proofs.source.read_again.Given as goal

abbrev pub invariant-loop : goal.invariant-loop
invariant-loop g l = Keeps (g.R.Read.remaining l.fn.inner) (g.R.Read.remaining l.inner)
