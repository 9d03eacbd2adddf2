use Rattle.std.proofs.Common.{sym, ap, ◌∙◌}
use Rattle.std.specs.Option.{option_map}
use Rattle.incarnations.specs.Meaning.{length_of}
use Rattle.incarnations.proofs.Freed.{nobody_of}
use Rattle.incarnations.proofs.incarnations.Incarnations.entries_of.Goals as goal

pub returns-in-Some : goal.returns-in-Some
returns-in-Some c = c.self.invariant.counts.sessions c.args.session c.in-Some.home.entries (ap (option_map (λ r. r.entries)) (sym c.in-Some.ensures)) ∙ ap (λ m. length_of m c.args.session) c.self.view_is

pub returns-in-None : goal.returns-in-None
returns-in-None c = sym (nobody_of c.self.inside.stock c.self.invariant c.args.session (sym c.in-None.ensures)) ∙ ap (λ m. length_of m c.args.session) c.self.view_is
