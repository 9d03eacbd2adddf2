use Rattle.std.proofs.Common.{ap}
use Rattle.pss_machine.specs.Operations.{plain_op}
use Rattle.data_calls.proofs.Bodies.{is_led_by}
use Rattle.data_calls.proofs.looking.led_off.Goals as goal

pub returns-in-Some-referred_at : goal.returns-in-Some-referred_at
returns-in-Some-referred_at c m =
    is_led_by m c.in-Follow.pid c.in-Follow.member (ap plain_op c.in-Follow.is) c.in-Some.ensures.hold c.in-Some.values.now c.in-Some.ensures.values c.in-Some-referred_at.to c.in-Some-referred_at.ensures
