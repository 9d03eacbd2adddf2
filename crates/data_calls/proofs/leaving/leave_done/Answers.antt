use Rattle.std.proofs.Common.{refl, ap}
use Rattle.type_layout.specs.Views.{plain_value}
use Rattle.pss_machine.specs.Operations.{Set, Destroy, Done, plain_op}
use Rattle.storage_home.proofs.Holding.{on_ok}
use Rattle.data_calls.proofs.Outdating.{op_as, set_by, destroys_it, homes_reached, left_here, as_before, asks_quiet}
use Rattle.data_calls.proofs.leaving.leave_done.Goals as goal

pub rewrite-requires : goal.rewrite-requires
rewrite-requires g c = set_by c.in-Set.pid c.in-Set.member (plain_value c.in-Set.value) (op_as (Set c.in-Set.pid c.in-Set.member (plain_value c.in-Set.value)) (ap plain_op c.in-Set.is) c.requires)

pub returns-in-Set : goal.returns-in-Set
returns-in-Set g c = on_ok c.rewrite.result (λ h m. h (set_by c.in-Set.pid c.in-Set.member (plain_value c.in-Set.value) (op_as (Set c.in-Set.pid c.in-Set.member (plain_value c.in-Set.value)) (ap plain_op c.in-Set.is) m))) c.rewrite.ensures

pub returns-in-Destroy : goal.returns-in-Destroy
returns-in-Destroy g c m =
    left_here m.schema m.limits m.kept c.args.acting m.asked Done c.args.parts.now _ m.taken refl refl refl
    (c.remove.ensures m.kept m.taken.step.step (destroys_it c.in-Destroy.pid (op_as (Destroy c.in-Destroy.pid) (ap plain_op c.in-Destroy.is) m)) (homes_reached m.schema m.limits m.kept m.taken.step.reached) m.taken.attended)

pub returns-in_default : goal.returns-in_default
returns-in_default g c m =
    as_before m (asks_quiet c.args.op.now Done c.in_default.not-Set c.in_default.not-Destroy) (c.entries_stay.ensures.quiet m.kept c.args.acting.owner m.taken.step.step)
    (λ state. c.entries_stay.ensures.fresh m.schema m.kept c.args.acting.owner m.taken.step.step state)
