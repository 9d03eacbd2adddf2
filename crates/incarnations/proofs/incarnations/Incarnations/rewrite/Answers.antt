use Rattle.std.proofs.Common.{sym, ap, ◌∙◌}
use Rattle.pss_machine.specs.declared.session.View.TheVariants.{Own}
use Rattle.incarnations.specs.Meaning.{body, rewritten}
use Rattle.incarnations.proofs.Seen.{revalued_sound, revalued_is, not_revalued}
use Rattle.incarnations.proofs.incarnations.Incarnations.rewrite.Goals as goal

pub invariant_of-self : goal.invariant_of-self
invariant_of-self c = revalued_sound c.self.inside.stock c.self.invariant (body c.args.pid (Own c.args.owner)) c.args.value c.set_value.new.self c.set_value.ensures c.in-Some.field-0 c.in-Some.ensures

pub returns-in-Some : goal.returns-in-Some
returns-in-Some c =
    revalued_is c.self.inside.stock c.self.invariant (body c.args.pid (Own c.args.owner)) c.args.value c.set_value.new.self c.set_value.ensures c.in-Some.field-0 c.in-Some.ensures
    ∙ ap (λ m. rewritten m (body c.args.pid (Own c.args.owner)) c.args.value) c.self.view_is

pub returns-in-None : goal.returns-in-None
returns-in-None c = sym c.self.view_is ∙ not_revalued c.self.inside.stock (body c.args.pid (Own c.args.owner)) c.args.value c.in-None.ensures ∙ ap (λ m. rewritten m (body c.args.pid (Own c.args.owner)) c.args.value) c.self.view_is
