use Rattle.std.proofs.Common.{◌≡◌, ◌+◌, ap, ◌∙◌}
use Rattle.pss_session.specs.Meaning.{Meaning, opened}
use Rattle.pss_session.specs.inner.Register.{meaning_of, sessions_of}
use Rattle.pss_session.proofs.Having.{have_opened, have_told, free_next}
use Rattle.pss_session.proofs.sessions.Sessions.add.Goals as goal

pub add_session-requires : goal.add_session-requires
add_session-requires c = free_next c.self.inside.register c.self.invariant c.args.self.now c.self.view_is c.args.copies.now c.requires.copies (c.prepare.new.register.last + 1) (ap (λ n. n + 1) c.prepare.ensures.last)

pub returns-in-Ok-clause-have : goal.returns-in-Ok-clause-have
returns-in-Ok-clause-have c =
    let same : meaning_of c.prepare.new.register ≡ c.args.self.now = (λ i. record { sessions = sessions_of (c.prepare.ensures.rows i); next = c.prepare.ensures.last i + 1 }) ∙ c.self.view_is in
    have_told _ (opened c.args.self.now c.args.name c.args.kind c.args.access) c.add_session.new.self (c.open.ensures.opened ∙ ap (λ m. opened m c.args.name c.args.kind c.args.access) same)
    (have_opened c.args.self.now c.args.copies.now c.add_session.new.self c.requires.copies c.args.name c.args.kind c.args.access (record { 0 = c.prepare.new.register.last + 1 }) (ap (λ (m : Meaning). m.next) same) c.in-Ok.ensures.ok)
