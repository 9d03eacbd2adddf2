use Rattle.std.proofs.Common.{refl, sym, ap, ◌∙◌, subst, IsSome}
use Rattle.std.specs.FinMap.{get}
use Rattle.pss_session.specs.Meaning.{Meaning, associated}
use Rattle.pss_session.proofs.Opened.{row_there, associated_is, associated_sound}
use Rattle.pss_session.proofs.sessions.Sessions.associate.Goals as goal

pub set-requires : goal.set-requires
set-requires c = row_there c.self.inside.register.rows.entries c.args.self.now (ap (λ (m : Meaning). m.sessions) c.self.view_is) c.args.session.0 c.requires

pub invariant_of-self : goal.invariant_of-self
invariant_of-self c = associated_sound c.self.inside.register _ c.self.invariant c.args.session c.args.association (subst (λ (m : Meaning). IsSome (get m.sessions c.args.session.0)) (sym c.self.view_is) c.requires) c.set.ensures.keys c.set.ensures.turns refl refl

pub returns : goal.returns
returns c =
    associated_is c.self.inside.register (record { rows = c.set.new.rows; names = c.self.inside.register.names; last = c.self.inside.register.last }) c.args.session c.args.association (subst (λ (m : Meaning). IsSome (get m.sessions c.args.session.0)) (sym c.self.view_is) c.requires) c.set.ensures.turns refl
    ∙ ap (λ m. associated m c.args.session c.args.association) c.self.view_is
