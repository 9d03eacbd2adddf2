use Rattle.owner_view.proofs.Outcomes.{if_ok_on}
use Rattle.owner_view.proofs.Valued.{valued}
use Rattle.owner_view.proofs.states.pids.Goals as goal

pub returns : goal.returns
returns c = if_ok_on c.slot_pids.result (λ pids apart all. valued c.args.states.now pids.items all apart) c.slot_pids.ensures.apart c.slot_pids.ensures.all
