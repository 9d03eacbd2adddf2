use Rattle.std.proofs.Common.{ap}
use Rattle.pss_machine.specs.Operations.{PlainOp}
use Rattle.owner_view.proofs.Outcomes.{if_ok}
use Rattle.data_calls.proofs.Ends.{may_leave, may_name, may_find, are_seated}
use Rattle.data_calls.proofs.finishing.seat_all.Goals as goal

pub leave-requires : goal.leave-requires
leave-requires g c = may_leave c.requires

pub seat_named-requires : goal.seat_named-requires
seat_named-requires g c = may_name c.requires _ (c.in_ok-leave.ensures (may_leave c.requires))

pub obtain_found-requires : goal.obtain_found-requires
obtain_found-requires g c = (let left = c.in_ok-leave.ensures (may_leave c.requires) in may_find c.requires _ (c.in_ok-seat_named.ensures (may_name c.requires _ left)) _ c.made_by-made.ensures.made)

pub returns : goal.returns
returns g c = record {
  seated =
      if_ok c.obtain_found.result
      (λ entry found m.
      let left = c.in_ok-leave.ensures (may_leave m) in
      let named = c.in_ok-seat_named.ensures (may_name m _ left) in
      are_seated m _ named _ c.made_by-made.ensures.made entry _ (found (may_find m _ named _ c.made_by-made.ensures.made)))
      c.obtain_found.ensures;
  left = if_ok c.obtain_found.result (λ entry found. ap (λ (op : PlainOp). record { op = op; entry = c.args.asked.now.entry; obtains = c.args.asked.now.obtains }) c.made_by-made.ensures.left) c.obtain_found.ensures;
}
