use Rattle.std.proofs.Common.{◌≡◌, ◌++◌}
use Rattle.owner_view.specs.States.{pids_in}
use Rattle.owner_view.proofs.states.slot_pids.Given as goal

abbrev pub invariant-loop-serial : goal.invariant-loop-serial
invariant-loop-serial l = l.pids.items ++ pids_in l.serial-iterator ≡ pids_in l.fn.states
