use Rattle.std.proofs.Common.{List, ◌∷◌, get_or, sym, ap, ◌∙◌, subst}
use Rattle.std.specs.Prelude.{Contains}
use Rattle.lock_table.specs.inner.Nodes.{held_in, with_all, missing}
use Rattle.lock_table.specs.inner.Links.{IsLookedUp}
use Rattle.lock_table.specs.declared.links.Lock.{Lock}
use Rattle.lock_table.proofs.Holding.{held_same}
use Rattle.lock_table.proofs.Telling.{own}
use Rattle.lock_table.proofs.grants.grant_all.Goals as goal

pub make_rings-requires-clause-own : goal.make_rings-requires-clause-own
make_rings-requires-clause-own c lock m =
    own c.args.owner (c.args.first.now.need.now ∷ c.args.second.now.need.now ∷ missing (held_in c.args.links.now.pool) c.args.owner c.args.second.now.behind.now) c.in_ok-locks.locks.items c.in_ok-locks.ensures lock (subst (λ (l : List Lock). Contains l lock) c.deref.ensures.value m)

pub make_rings-requires-clause-found : goal.make_rings-requires-clause-found
make_rings-requires-clause-found c lock e =
    subst (λ (l : Lock). IsLookedUp c.args.links.now l.resource c.args.first.now.found) (sym (ap (λ l. get_or l 0 lock) c.in_ok-locks.ensures) ∙ sym (ap (λ l. get_or l 0 lock) c.deref.ensures.value) ∙ e) c.requires.first.looked

pub drop_empty_rings-requires-clause-own : goal.drop_empty_rings-requires-clause-own
drop_empty_rings-requires-clause-own c lock m =
    own c.args.owner (c.args.first.now.need.now ∷ c.args.second.now.need.now ∷ missing (held_in c.args.links.now.pool) c.args.owner c.args.second.now.behind.now) c.in_ok-locks.locks.items c.in_ok-locks.ensures lock (subst (λ (l : List Lock). Contains l lock) c.deref-in-Err.ensures.value m)

pub returns-in-Ok-clause-ok : goal.returns-in-Ok-clause-ok
returns-in-Ok-clause-ok c =
    c.link_all.ensures.held ∙ ap (with_all c.in_ok-locks.locks.items) (held_same c.args.links.now.pool c.make_rings.new.links.pool c.make_rings.ensures.nodes) ∙ ap (λ l. with_all l (held_in c.args.links.now.pool)) c.in_ok-locks.ensures
