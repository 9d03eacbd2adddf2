use Rattle.std.proofs.Common.{refl, ◌+◌, None, sym, subst, List, ℕ}
use Rattle.pss_session.specs.inner.Names as names
use Rattle.pss_session.proofs.Registers.{turned_none}
use Rattle.pss_session.proofs.Opened.{close_sound, none_sound}
use Rattle.pss_session.proofs.coming.close.Goals as goal

pub returns-in-Some-clause-sound : goal.returns-in-Some-clause-sound
returns-in-Some-clause-sound c =
    close_sound c.args.register.now (record { rows = c.take.new.rows; names = c.remove.new.names; last = c.args.register.now.last }) c.requires c.args.session.0 c.in-Some.record (sym c.in-Some.ensures.value) c.take.ensures.rest c.take.ensures.turns c.in-Some.ensures.len refl
    (subst (λ (l : List ℕ). names.Turns c.args.register.now.names.entries c.remove.new.names.entries l None) c.as_slice.ensures c.remove.ensures)

pub returns-in-Some-clause-closed : goal.returns-in-Some-clause-closed
returns-in-Some-clause-closed c = λ i. record { sessions = turned_none c.args.register.now.rows.entries c.take.new.rows.entries c.args.session.0 c.take.ensures.turns i; next = c.args.register.now.last + 1 }

pub returns-in_default-clause-sound : goal.returns-in_default-clause-sound
returns-in_default-clause-sound c = none_sound c.args.register.now (record { rows = c.take.new.rows; names = c.args.register.now.names; last = c.args.register.now.last }) c.requires c.args.session.0 c.take.ensures.rest c.take.ensures.turns (sym c.in_default.ensures.value) refl refl

pub returns-in_default-clause-closed : goal.returns-in_default-clause-closed
returns-in_default-clause-closed c = λ i. record { sessions = turned_none c.args.register.now.rows.entries c.take.new.rows.entries c.args.session.0 c.take.ensures.turns i; next = c.args.register.now.last + 1 }
