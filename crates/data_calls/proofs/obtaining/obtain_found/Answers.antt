use Rattle.std.proofs.Common.{ap}
use Rattle.pss_machine.specs.Operations.{plain_answer}
use Rattle.data_calls.proofs.Taking.{plain_found}
use Rattle.data_calls.proofs.Places.{unwanted_way, unfound_way, may_obtain, found_way}
use Rattle.data_calls.proofs.obtaining.obtain_found.Goals as goal

pub returns-then-not-obtains : goal.returns-then-not-obtains
returns-then-not-obtains c m = unwanted_way m c.if-not-obtains.true

pub obtain-requires : goal.obtain-requires
obtain-requires c = may_obtain c.requires c.if-not-obtains.false c.in-Found.pid (ap plain_answer c.in-Found.is)

pub returns-in_ok-number-in-Found : goal.returns-in_ok-number-in-Found
returns-in_ok-number-in-Found c m =
    found_way m c.if-not-obtains.false c.in-Found.pid (ap plain_answer c.in-Found.is) c.in_ok-number-in-Found.number _ (c.in_ok-number-in-Found.ensures (may_obtain m c.if-not-obtains.false c.in-Found.pid (ap plain_answer c.in-Found.is)))

pub returns-in_default : goal.returns-in_default
returns-in_default c m = unfound_way m (λ p is. c.in_default.not-Found p (plain_found c.args.answer.now p is))
