use Rattle.std.proofs.Common.{sym, ap, ◌∙◌}
use Rattle.type_layout.specs.Members.{plain_member}
use Rattle.pss_machine.specs.Operations.{plain_op}
use Rattle.type_layout.specs.Views.{plain_value}
use Rattle.data_calls.proofs.Texts.{no_text}
use Rattle.data_calls.proofs.replies.value_text.Goals as goal

pub returns-in_default : goal.returns-in_default
returns-in_default c = c.new.ensures ∙ no_text c.args.parts.now.schema c.args.op.now (plain_value c.args.value.now) c.in_default.not-Get

pub print_value-requires : goal.print_value-requires
print_value-requires c = c.requires c.in-Get.pid c.in-Get.member (plain_member c.in-Some.member.now) (ap plain_op c.in-Get.is) (sym c.in-Some.ensures)
