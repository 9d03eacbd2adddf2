use Rattle.std.proofs.Common.{ap, ◌∙◌}
use Rattle.pss_session.specs.Meaning.{Meaning}
use Rattle.connector_parts.proofs.Named.{found_of}
use Rattle.connector_parts.proofs.parts.Parts.session.Goals as goal

pub returns : goal.returns
returns c k stands = found_of c.sessions.result.now k (ap (λ (x : Meaning). x.sessions) c.sessions.ensures ∙ stands.attended.sessions) c.args.name.now c.find_standing.result c.find_standing.ensures
