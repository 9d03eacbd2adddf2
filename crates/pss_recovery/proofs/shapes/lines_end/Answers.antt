use Rattle.std.proofs.Common.{sym, subst, arith}
use Rattle.pss_recovery.specs.inner.Lines.{EndsAt}
use Rattle.pss_recovery.proofs.HomeLines.{between_homes, one_home}
use Rattle.pss_recovery.proofs.shapes.lines_end.Goals as goal

pub returns-then-first-octets : goal.returns-then-first-octets
returns-then-first-octets c =
    subst (EndsAt c.args.octets.now) (sym c.if-first-octets.true) (one_home c.args.octets.now (λ i from lt. c.next_home-first.ensures.before i from (omega (arith, lt, c.if-first-octets.true))))

pub returns : goal.returns
returns c = between_homes c.args.octets.now c.next_home-first.result c.next_home.result c.next_home-first.ensures (omega (arith, c.if-first-octets.false, c.next_home-first.ensures.within)) c.next_home.ensures
