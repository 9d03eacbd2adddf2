use Rattle.std.proofs.Common.{subst}
use Rattle.owner_view.proofs.Outcomes.{if_ok}
use Rattle.pss_asking.specs.Telling.{plain_asked}
use Rattle.data_calls.specs.declared.granting.Grant.{Grant}
use Rattle.data_calls.specs.Asking.{IsGranted, decision_on}
use Rattle.data_calls.proofs.Ends.{any_taken, follows}
use Rattle.data_calls.proofs.finishing.perform.Goals as goal

pub finish-requires : goal.finish-requires
finish-requires g c =
    let a = c.requires in
    any_taken (subst (λ (grant : Grant). IsGranted c.args.parts.now a.kept (decision_on a) c.args.acting (plain_asked c.args.asked.now) grant c.attempt.new.parts) c.in-Taken.is (c.in_ok-answer.ensures a))

pub returns-in-Taken : goal.returns-in-Taken
returns-in-Taken g c =
    if_ok c.finish.result
    (λ reply finished a.
    let taken = subst (λ (grant : Grant). IsGranted c.args.parts.now a.kept (decision_on a) c.args.acting (plain_asked c.args.asked.now) grant c.attempt.new.parts) c.in-Taken.is (c.in_ok-answer.ensures a) in
    follows taken reply _ (finished (any_taken taken)))
    c.finish.ensures

pub returns-in-Refused : goal.returns-in-Refused
returns-in-Refused g c a = subst (λ (grant : Grant). IsGranted c.args.parts.now a.kept (decision_on a) c.args.acting (plain_asked c.args.asked.now) grant c.attempt.new.parts) c.in-Refused.is (c.in_ok-answer.ensures a)
