use Rattle.std.proofs.Common.{[], rules}
use Rattle.type_layout.specs.Schemas.{given}
use Rattle.type_layout.proofs.Firsts.{one_list_more}
use Rattle.type_layout.proofs.factory_names.first_places.Goals as goal

pub loop-number-preserved : goal.loop-number-preserved
loop-number-preserved c =
    one_list_more (λ o. given o [] (λ b. b.value)) c.loop-number.names c.enter_all.new.names c.args.declared.now c.loop-number.number c.index-declared-number.result c.loop-number-test.true (search rules) c.loop-number.invariant (search rules)
