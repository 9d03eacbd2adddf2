use Rattle.std.proofs.Common.{sym, ap, ◌∙◌}
use Rattle.std.specs.Option.{option_map}
use Rattle.type_layout.specs.Types.{PlainValue}
use Rattle.type_layout.specs.Views.{plain_value}
use Rattle.pss_machine.specs.Operations.{plain_op}
use Rattle.data_calls.proofs.Bodies.{is_read_by}
use Rattle.data_calls.proofs.looking.read_off.Goals as goal

pub returns-in-Some-2 : goal.returns-in-Some-2
returns-in-Some-2 c m =
    is_read_by m c.in-Get.pid c.in-Get.member (ap plain_op c.in-Get.is) c.in-Some.ensures.hold c.in-Some.values.now c.in-Some.ensures.values (plain_value c.in-Some-2.value)
    (sym c.in_ok-value.ensures ∙ ap (option_map {U = PlainValue} plain_value) c.in-Some-2.is)
