use Rattle.std.proofs.Common.{ap, sym}
use Rattle.pss_session.specs.Meaning.{Meaning}
use Rattle.pss_session.specs.inner.Rows.{row_at}
use Rattle.pss_session.proofs.Finding.{there_named, row_stands}
use Rattle.pss_session.proofs.Opened.{row_there, never}
use Rattle.pss_session.proofs.sessions.Sessions.look_up.Goals as goal

pub unreachable-requires : goal.unreachable-requires
unreachable-requires c =
    let rows = c.self.inside.register.rows.entries in
    let n = c.in_ok-number.number.0 in
    never (row_at rows n) (row_there rows c.args.self.now (ap (λ (m : Meaning). m.sessions) c.self.view_is) n (there_named c.args.self.now c.args.name.now c.in_ok-number.number c.in_ok-number.ensures)) (sym c.in-None.ensures)

pub returns : goal.returns
returns c = record {
  named = sym c.in_ok-number.ensures;
  stands = row_stands c.self.inside.register c.self.invariant c.args.self.now c.self.view_is c.in_ok-number.number.0 c.in-Some.record.now c.in-Some.ensures c.standing.result c.standing.ensures;
}
