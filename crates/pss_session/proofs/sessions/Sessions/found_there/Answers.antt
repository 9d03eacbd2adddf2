use Rattle.std.proofs.Common.{◌≡◌, true, sym, ap, ◌∙◌}
use Rattle.std.specs.Str.{bytes_eq}
use Rattle.pss_session.proofs.Called.{same_bytes}
use Rattle.pss_session.proofs.Finding.{row_named, row_stands}
use Rattle.pss_session.proofs.sessions.Sessions.found_there.Goals as goal

pub returns-in-Some : goal.returns-in-Some
returns-in-Some c =
    let n = c.in-Some.number.now in
    let row = c.in-Some.record.now in
    let name = c.args.name.now in
    let same : bytes_eq row.name name ≡ true = ap (λ l. bytes_eq l name) (sym c.as_slice.ensures) ∙ sym c.eq.ensures ∙ c.if-eq.true in
    record {
      named = row_named c.self.inside.register c.self.invariant c.args.self.now c.self.view_is n row c.in-Some.ensures.value name (same_bytes row.name name same);
      stands = row_stands c.self.inside.register c.self.invariant c.args.self.now c.self.view_is n row c.in-Some.ensures.value c.standing.result c.standing.ensures;
    }
