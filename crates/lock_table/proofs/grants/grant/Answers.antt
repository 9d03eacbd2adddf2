use Rattle.std.proofs.Common.{[], ◌∙◌}
use Rattle.lock_table.proofs.Telling.{nothing_more, one_more, on_ok}
use Rattle.lock_table.proofs.grants.grant.Goals as goal

pub returns-in-Some-first_missing-clause-ok : goal.returns-in-Some-first_missing-clause-ok
returns-in-Some-first_missing-clause-ok c =
    on_ok c.grant_all.result (λ linked. linked ∙ one_more c.args.links.now.pool c.args.owner c.args.needs.now c.in-Some.first.need.now c.in-Some.first.behind.now _ c.in-Some.ensures.some c.in-Some-first_missing.ensures.some) c.grant_all.ensures.ok

pub returns-in-None-first_missing-clause-ok : goal.returns-in-None-first_missing-clause-ok
returns-in-None-first_missing-clause-ok c =
    on_ok c.grant_one.result (λ linked. linked ∙ one_more c.args.links.now.pool c.args.owner c.args.needs.now c.in-Some.first.need.now c.in-Some.first.behind.now [] c.in-Some.ensures.some c.in-None-first_missing.ensures.none) c.grant_one.ensures.ok

pub returns-in-None-clause-ok : goal.returns-in-None-clause-ok
returns-in-None-clause-ok c = nothing_more c.args.links.now.pool c.args.owner c.args.needs.now c.in-None.ensures.none
