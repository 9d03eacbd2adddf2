use Rattle.std.proofs.Common.{arith, ◌+◌}
use Rattle.psdl_syntax.specs.Syntax.{most_bytes}
use Rattle.pss_serving.proofs.OneThing.{whole_one, longer_one}
use Rattle.pss_serving.proofs.Overlong.{whole, longer}
use Rattle.pss_serving.proofs.reading.read_checked.Goals as goal

pub returns-in-Ok-clause-found : goal.returns-in-Ok-clause-found
returns-in-Ok-clause-found g c = whole c.check_text.result _ (g.P.Source.left c.args.schema.now) c.in-Ok.ensures.ok.1 c.check_text.ensures.found

pub returns-in-Err-OverLimit-clause-found : goal.returns-in-Err-OverLimit-clause-found
returns-in-Err-OverLimit-clause-found g c =
    longer (most_bytes + 1) c.check_text-in-Err-OverLimit.result _ (g.P.Source.left c.args.schema.now) (omega arith) (rw c.in-Err-OverLimit.field-0-is at c.in-Err-OverLimit.ensures.err).1
    c.check_text-in-Err-OverLimit.ensures.found

pub returns-in-Ok-clause-one : goal.returns-in-Ok-clause-one
returns-in-Ok-clause-one g c = whole_one c.check_text.result _ (g.P.Source.left c.args.schema.now) c.in-Ok.ensures.ok.1 c.check_text.ensures.one

pub returns-in-Err-OverLimit-clause-one : goal.returns-in-Err-OverLimit-clause-one
returns-in-Err-OverLimit-clause-one g c =
    longer_one (most_bytes + 1) c.check_text-in-Err-OverLimit.result _ (g.P.Source.left c.args.schema.now) (omega arith) (rw c.in-Err-OverLimit.field-0-is at c.in-Err-OverLimit.ensures.err).1
