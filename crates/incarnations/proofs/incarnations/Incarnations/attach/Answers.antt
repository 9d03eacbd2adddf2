use Rattle.std.proofs.Common.{◌≡◌, None, sym, ap, ◌∙◌, subst}
use Rattle.std.specs.Prelude.{IsSomeAnd}
use Rattle.std.specs.FinMap.{get}
use Rattle.incarnations.specs.declared.names.Entry.{Entry}
use Rattle.incarnations.specs.Meaning.{slot, body, attached}
use Rattle.incarnations.specs.Stock.{meaning_of}
use Rattle.incarnations.proofs.Seen.{entry_seen, entry_none, body_free}
use Rattle.incarnations.proofs.incarnations.Incarnations.attach.Goals as goal

pub unreachable-requires : goal.unreachable-requires
unreachable-requires c = subst (λ o. IsSomeAnd o (λ (e : Entry). (e.view ≡ None) × (get c.args.self.now.bodies (body e.pid c.args.view) ≡ None))) (entry_none c.self.inside.stock c.args.self.now c.self.view_is (slot c.args.session c.args.number) c.in_default.ensures) c.requires

pub attach-requires-clause-loose : goal.attach-requires-clause-loose
attach-requires-clause-loose c = (subst (λ o. IsSomeAnd o (λ (e : Entry). (e.view ≡ None) × (get c.args.self.now.bodies (body e.pid c.args.view) ≡ None))) (entry_seen c.self.inside.stock c.args.self.now c.self.view_is (slot c.args.session c.args.number) c.in-Some.was c.in-Some.ensures) c.requires).0

pub attach-requires-clause-free : goal.attach-requires-clause-free
attach-requires-clause-free c =
    body_free c.self.inside.stock c.args.self.now c.self.view_is (body c.in-Some.was.entry.pid c.args.view) (subst (λ o. IsSomeAnd o (λ (e : Entry). (e.view ≡ None) × (get c.args.self.now.bodies (body e.pid c.args.view) ≡ None))) (entry_seen c.self.inside.stock c.args.self.now c.self.view_is (slot c.args.session c.args.number) c.in-Some.was c.in-Some.ensures) c.requires).1

pub returns-clause-ok : goal.returns-clause-ok
returns-clause-ok c =
    subst (λ o. IsSomeAnd o (λ e. meaning_of c.attach.new.stock ≡ attached c.args.self.now (slot c.args.session c.args.number) c.args.view c.args.value e)) (sym (entry_seen c.self.inside.stock c.args.self.now c.self.view_is (slot c.args.session c.args.number) c.in-Some.was c.in-Some.ensures))
    (c.in_ok-attach.ensures.ok ∙ ap (λ m. attached m (slot c.args.session c.args.number) c.args.view c.args.value c.in-Some.was.entry) c.self.view_is)
