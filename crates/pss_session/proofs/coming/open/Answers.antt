use Rattle.std.proofs.Common.{refl, ◌+◌, Some, sym, ap, ◌∙◌, subst, arith, List, ℕ}
use Rattle.pss_session.specs.inner.Names as names
use Rattle.pss_session.specs.inner.Names.{number_at}
use Rattle.pss_session.specs.inner.Register.{sessions_of}
use Rattle.pss_session.proofs.Registers.{pushed}
use Rattle.pss_session.proofs.Naming.{named_is}
use Rattle.pss_session.proofs.Opened.{open_sound, next_free}
use Rattle.pss_session.proofs.coming.open.Goals as goal

pub returns-clause-sound : goal.returns-clause-sound
returns-clause-sound c =
    open_sound c.args.register.now _ c.requires.sound _ c.put-2.ensures refl (subst (λ (l : List ℕ). names.Turns c.args.register.now.names.entries c.put.new.names.entries l (Some (record { 0 = c.args.register.now.last + 1 }))) c.requires.key c.put.ensures)
    (sym (named_is c.args.register.now.rows.entries (number_at c.args.register.now.names.entries) c.requires.sound.named c.args.name) ∙ c.requires.free) (omega (arith, c.requires.number))

pub returns-clause-opened : goal.returns-clause-opened
returns-clause-opened c =
    (λ i. record { sessions = (ap sessions_of c.put-2.ensures ∙ pushed c.args.register.now.rows.entries (c.args.register.now.last + 1) _ (next_free c.args.register.now c.args.register.now c.requires.sound)) i; next = c.args.register.now.last + 1 + 1 })
