use Rattle.std.proofs.Common.{◌+◌, refl, sym, ap, subst, arith}
use Rattle.owner_titles.specs.Meaning.{Meaning}
use Rattle.owner_titles.specs.inner.Register.{IsSound}
use Rattle.owner_titles.proofs.Sounds.{session_sound}
use Rattle.owner_titles.proofs.titles.Titles.add_session.Goals as goal

pub invariant_of-self-2 : goal.invariant_of-self-2
invariant_of-self-2 c =
    subst (λ m. IsSound m c.self.inside.names.held (c.self.inside.last + 1) c.self.inside.transactions) (sym c.in_ok-add.ensures.ok)
    (session_sound c.self.inside.table c.self.inside.names.held c.self.inside.last c.self.inside.transactions c.self.invariant _ (omega (arith, c.requires, ap (λ (m : Meaning). m.next) c.self.view_is)) refl)
