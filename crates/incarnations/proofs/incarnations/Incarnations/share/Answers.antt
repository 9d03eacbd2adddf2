use Rattle.std.proofs.Common.{◌≡◌, Some, None, IsSome, sym, ap, ◌∙◌, subst}
use Rattle.std.specs.Prelude.{IsSomeAnd}
use Rattle.std.specs.FinMap.{get}
use Rattle.incarnations.specs.declared.names.Entry.{Entry}
use Rattle.incarnations.specs.Meaning.{slot, body, with_view, with_entry}
use Rattle.incarnations.specs.Stock.{meaning_of}
use Rattle.incarnations.proofs.Seen.{entry_seen, entry_none, body_in}
use Rattle.incarnations.proofs.incarnations.Incarnations.share.Goals as goal

pub unreachable-requires : goal.unreachable-requires
unreachable-requires c = subst (λ o. IsSomeAnd o (λ (e : Entry). (e.view ≡ None) × IsSome (get c.args.self.now.bodies (body e.pid c.args.view)))) (entry_none c.self.inside.stock c.args.self.now c.self.view_is (slot c.args.session c.args.number) c.in_default.ensures) c.requires

pub share-requires-clause-loose : goal.share-requires-clause-loose
share-requires-clause-loose c = (subst (λ o. IsSomeAnd o (λ (e : Entry). (e.view ≡ None) × IsSome (get c.args.self.now.bodies (body e.pid c.args.view)))) (entry_seen c.self.inside.stock c.args.self.now c.self.view_is (slot c.args.session c.args.number) c.in-Some.was c.in-Some.ensures) c.requires).0

pub share-requires-clause-body : goal.share-requires-clause-body
share-requires-clause-body c =
    body_in c.self.inside.stock c.args.self.now c.self.view_is (body c.in-Some.was.entry.pid c.args.view) (subst (λ o. IsSomeAnd o (λ (e : Entry). (e.view ≡ None) × IsSome (get c.args.self.now.bodies (body e.pid c.args.view)))) (entry_seen c.self.inside.stock c.args.self.now c.self.view_is (slot c.args.session c.args.number) c.in-Some.was c.in-Some.ensures) c.requires).1

pub returns : goal.returns
returns c =
    subst (λ o. IsSomeAnd o (λ e. meaning_of c.share.new.stock ≡ with_entry c.args.self.now (slot c.args.session c.args.number) (with_view (Some c.args.view) e))) (sym (entry_seen c.self.inside.stock c.args.self.now c.self.view_is (slot c.args.session c.args.number) c.in-Some.was c.in-Some.ensures))
    (c.share.ensures.shared ∙ ap (λ m. with_entry m (slot c.args.session c.args.number) (with_view (Some c.args.view) c.in-Some.was.entry)) c.self.view_is)
