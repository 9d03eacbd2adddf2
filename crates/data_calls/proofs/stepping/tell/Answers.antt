use Rattle.std.proofs.Common.{refl}
use Rattle.pss_machine.specs.Operations.{plain_answer}
use Rattle.data_calls.proofs.Taking.{may_count, told_takes}
use Rattle.data_calls.proofs.stepping.tell.Goals as goal

pub count-requires : goal.count-requires
count-requires c = (c.args.parts.now.schema, may_count c.requires.1.take)

pub returns : goal.returns
returns c asked m =
    told_takes m.take _ m.told _ (record { schema = refl; limits = refl }) refl (λ question. c.count.ensures c.args.parts.now.schema (may_count m.take) c.args.acting.session question (plain_answer c.args.answer) asked)
