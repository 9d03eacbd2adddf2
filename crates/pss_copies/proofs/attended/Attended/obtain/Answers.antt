use Rattle.std.proofs.Common.{IsSome, refl, subst, sym}
use Rattle.std.specs.Prelude.{IfOk}
use Rattle.std.specs.FinMap.{get}
use Rattle.pss_machine.specs.Entries.{AreOrderly}
use Rattle.pss_machine.specs.Kept.{Kept, copies_of}
use Rattle.pss_copies.specs.declared.parts.Parts.{Parts}
use Rattle.pss_copies.specs.Seats.{Attends, IsObtainedIn}
use Rattle.pss_copies.proofs.Obtained.{obtained_where, obtained_have}
use Rattle.pss_copies.proofs.attended.Attended.obtain.Goals as goal

pub returns-clause-ok : goal.returns-clause-ok
returns-clause-ok c =
    let new : Parts = record { sessions = c.self.inside.parts.sessions; copies = c.obtain.new.self } in
    subst (λ (old : Parts). IfOk c.obtain.result (λ n. (k : Kept) → AreOrderly (copies_of k c.args.session) → Attends k old → IsObtainedIn k c.args.session c.args.pid n new)) c.self.view_is
    (obtained_where c.self.inside.parts new c.args.session c.args.pid c.obtain.result c.copies_hold.ensures refl (subst (λ (old : Parts). IsSome (get old.copies.lasts c.args.session)) (sym c.self.view_is) c.requires.session) c.obtain.ensures.ok)

pub invariant_of-self : goal.invariant_of-self
invariant_of-self c =
    obtained_have c.self.inside.parts.sessions c.self.inside.parts.copies c.obtain.new.self c.args.session c.args.pid c.obtain.result c.self.invariant (subst (λ (old : Parts). IsSome (get old.copies.lasts c.args.session)) (sym c.self.view_is) c.requires.session) c.obtain.ensures.ok
    c.obtain.ensures.err
