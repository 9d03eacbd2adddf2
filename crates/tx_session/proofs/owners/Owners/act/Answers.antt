use Rattle.pss_machine.specs.Operations.{plain_op}
use Rattle.owner_view.proofs.Outcomes.{if_ok, on_ok}
use Rattle.tx_session.proofs.Blocking.{acting, may_be_taken, told_busy, not_free, not_busy, not_held_up, told_answer, stepped_on}
use Rattle.tx_session.proofs.owners.Owners.act.Goals as goal

pub take-requires-clause-may : goal.take-requires-clause-may
take-requires-clause-may c =
    (c.args.schema.now, may_be_taken c.args.schema.now c.args.homes.now c.args.self.now c.self.inside.parts c.args.owner (plain_op c.args.op.now) c.self.view_is c.in_ok-step.step c.requires.may (c.in_ok-step.ensures (acting c.self.view_is c.requires.may)) c.requires.under c.self.invariant)

pub returns-in-Some-clause-busy : goal.returns-in-Some-clause-busy
returns-in-Some-clause-busy c m =
    told_busy c.args.schema.now c.args.homes.now c.args.self.now c.self.inside.parts c.args.owner (plain_op c.args.op.now) c.self.view_is c.in_ok-step.step m (c.in_ok-step.ensures (acting c.self.view_is m)) c.self.invariant.locks c.in-Some.other c.in-Some.ensures

pub returns-in-Some-clause-answer : goal.returns-in-Some-clause-answer
returns-in-Some-clause-answer c m none =
    not_free c.args.schema.now c.args.homes.now c.args.self.now c.self.inside.parts c.args.owner (plain_op c.args.op.now) c.self.view_is c.in_ok-step.step m (c.in_ok-step.ensures (acting c.self.view_is m)) c.self.invariant.locks c.in-Some.other c.in-Some.ensures none

pub returns-in-Some-clause-stepped : goal.returns-in-Some-clause-stepped
returns-in-Some-clause-stepped c m none =
    not_free c.args.schema.now c.args.homes.now c.args.self.now c.self.inside.parts c.args.owner (plain_op c.args.op.now) c.self.view_is c.in_ok-step.step m (c.in_ok-step.ensures (acting c.self.view_is m)) c.self.invariant.locks c.in-Some.other c.in-Some.ensures none

pub returns-in-None-clause-busy : goal.returns-in-None-clause-busy
returns-in-None-clause-busy c =
    if_ok c.take.result
    (λ told same m.
    not_busy c.args.schema.now c.args.homes.now c.args.self.now c.self.inside.parts c.args.owner (plain_op c.args.op.now) c.self.view_is c.in_ok-step.step m (c.in_ok-step.ensures (acting c.self.view_is m)) c.self.invariant.locks c.in-None.ensures told same)
    c.take.ensures.answer

pub returns-in-None-clause-held_up : goal.returns-in-None-clause-held_up
returns-in-None-clause-held_up c =
    on_ok c.take.result
    (λ on m some.
    not_held_up c.args.schema.now c.args.homes.now c.args.self.now c.self.inside.parts c.args.owner (plain_op c.args.op.now) c.self.view_is c.in_ok-step.step m (c.in_ok-step.ensures (acting c.self.view_is m)) c.self.invariant.locks c.in-None.ensures some)
    c.take.ensures.stepped

pub returns-in-None-clause-answer : goal.returns-in-None-clause-answer
returns-in-None-clause-answer c =
    if_ok c.take.result
    (λ told same m none.
    told_answer c.args.schema.now c.args.homes.now c.args.self.now c.self.inside.parts c.args.owner (plain_op c.args.op.now) c.self.view_is c.in_ok-step.step m (c.in_ok-step.ensures (acting c.self.view_is m)) c.self.invariant.locks c.in-None.ensures told same)
    c.take.ensures.answer

pub returns-in-None-clause-stepped : goal.returns-in-None-clause-stepped
returns-in-None-clause-stepped c =
    on_ok c.take.result
    (λ on m none.
    stepped_on c.args.schema.now c.args.homes.now c.args.self.now c.self.inside.parts c.args.owner (plain_op c.args.op.now) c.self.view_is c.in_ok-step.step m (c.in_ok-step.ensures (acting c.self.view_is m)) c.self.invariant.locks c.take.new.self on)
    c.take.ensures.stepped

pub returns-in-None-clause-under : goal.returns-in-None-clause-under
returns-in-None-clause-under c =
    c.take.ensures.under c.args.schema.now
    (may_be_taken c.args.schema.now c.args.homes.now c.args.self.now c.self.inside.parts c.args.owner (plain_op c.args.op.now) c.self.view_is c.in_ok-step.step c.requires.may (c.in_ok-step.ensures (acting c.self.view_is c.requires.may)) c.requires.under c.self.invariant)
