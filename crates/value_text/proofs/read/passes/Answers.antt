use Rattle.type_layout.specs.Views.{plain_type, plain_value}
use Rattle.value_text.proofs.Standing.{test_is}
use Rattle.value_text.proofs.read.passes.Goals as goal

pub returns : goal.returns
returns c = test_is c.is_of.result (plain_type c.args.ty.now) (plain_value c.args.value.now) c.is_of.ensures
