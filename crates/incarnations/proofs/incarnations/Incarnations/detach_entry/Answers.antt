use Rattle.std.proofs.Common.{sym, ◌∙◌, subst}
use Rattle.incarnations.specs.Meaning.{body, Leaves, loosened, both, of_session, on_body}
use Rattle.incarnations.specs.Stock.{meaning_of}
use Rattle.incarnations.proofs.Seen.{no_object, object_entry, loose_entry, other_view, left_view}
use Rattle.incarnations.proofs.incarnations.Incarnations.detach_entry.Goals as goal

pub returns-in_default-clause-left : goal.returns-in_default-clause-left
returns-in_default-clause-left g c = subst (λ m. Leaves (loosened (both (of_session c.args.session) (on_body (body c.args.pid c.args.view)))) m m) c.self.view_is (no_object c.self.inside.stock c.self.invariant c.args.session c.args.pid c.args.view c.in_default.ensures)

pub unreachable-requires : goal.unreachable-requires
unreachable-requires g c = object_entry c.self.inside.stock c.self.invariant c.args.session c.args.pid c.args.view c.in-Some.number c.in-Some.ensures c.in_default-get.ensures

pub loosen-requires-clause-entry : goal.loosen-requires-clause-entry
loosen-requires-clause-entry g c = sym c.in-Some-get.ensures

pub returns-then-is_asked-clause-left : goal.returns-then-is_asked-clause-left
returns-then-is_asked-clause-left g c =
    subst (λ m. Leaves (loosened (both (of_session c.args.session) (on_body (body c.args.pid c.args.view)))) m (meaning_of c.loosen.new.stock)) c.self.view_is
    (left_view c.self.inside.stock c.self.invariant c.args.session c.args.pid c.args.view c.in-Some.number c.in-Some.ensures c.in-Some-get.was c.in-Some-get.ensures c.in-Some-view.stood c.in-Some-view.is (sym c.is_asked.ensures ∙ c.if-is_asked.true) c.loosen.new.stock c.loosen.ensures.sound c.loosen.ensures.entries)

pub returns-else-is_asked-clause-left : goal.returns-else-is_asked-clause-left
returns-else-is_asked-clause-left g c =
    subst (λ m. Leaves (loosened (both (of_session c.args.session) (on_body (body c.args.pid c.args.view)))) m m) c.self.view_is (other_view c.self.inside.stock c.self.invariant c.args.session c.args.pid c.args.view c.in-Some.number c.in-Some.ensures c.in-Some-get.was c.in-Some-get.ensures c.in-Some-view.stood c.in-Some-view.is (sym c.is_asked.ensures ∙ c.if-is_asked.false))

pub returns-in_default-view-clause-left : goal.returns-in_default-view-clause-left
returns-in_default-view-clause-left g c = subst (λ m. Leaves (loosened (both (of_session c.args.session) (on_body (body c.args.pid c.args.view)))) m m) c.self.view_is (loose_entry c.self.inside.stock c.self.invariant c.args.session c.args.pid c.args.view c.in-Some.number c.in-Some.ensures c.in-Some-get.was c.in-Some-get.ensures c.in_default-view.is)
