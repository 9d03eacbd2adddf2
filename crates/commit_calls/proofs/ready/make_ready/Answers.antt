use Rattle.std.proofs.Common.{refl, ◌∙◌}
use Rattle.commit_calls.proofs.Readiness.{may_prepare_as, is_full, has_room, ready_as}
use Rattle.commit_calls.proofs.ready.make_ready.Goals as goal

pub prepare-requires : goal.prepare-requires
prepare-requires c = may_prepare_as c.args.parts.now c.args.owner c.schema.result.now c.schema.ensures c.requires

pub returns-in-Ok-clause-full : goal.returns-in-Ok-clause-full
returns-in-Ok-clause-full c m = has_room c.args.parts.now c.args.owner c.schema.result.now c.schema.ensures m c.in_ok-commit.field-0 c.in-Some.commit c.in-Some.is c.in_ok-commit.ensures.full

pub returns-in-Ok-clause-ready : goal.returns-in-Ok-clause-ready
returns-in-Ok-clause-ready c m =
    ready_as c.args.parts.now c.args.owner c.schema.result.now c.schema.ensures m _ _ refl c.in_ok-commit.field-0 c.in-Some.is c.in_ok-commit.ensures.prepared (c.in_ok-commit.ensures.kept c.args.parts.now.schema m.kept m.at.stands.accounts)
    c.as_slice.result.now (c.as_slice.ensures.items ∙ c.changes.ensures) c.in-Ok.ensures.pids c.in-Ok.ensures.own

pub returns-in-None-clause-full : goal.returns-in-None-clause-full
returns-in-None-clause-full c m = is_full c.args.parts.now c.args.owner c.schema.result.now c.schema.ensures m c.in_ok-commit.field-0 c.in-None.is c.in_ok-commit.ensures.full
