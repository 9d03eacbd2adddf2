use Rattle.owner_view.proofs.Outcomes.{if_ok}
use Rattle.data_calls.proofs.Ends.{may_reply, left_finished}
use Rattle.data_calls.proofs.finishing.finish.Goals as goal

pub reply-requires : goal.reply-requires
reply-requires g c = may_reply c.requires c.in-Ok.entry _ (c.in-Ok.ensures.seated c.requires) _ c.in-Ok.ensures.left

pub returns-in-Ok : goal.returns-in-Ok
returns-in-Ok g c =
    if_ok c.reply.result
    (λ reply replied m.
    let seated = c.in-Ok.ensures.seated m in
    left_finished m c.in-Ok.entry _ seated _ c.in-Ok.ensures.left reply (replied (may_reply m c.in-Ok.entry _ seated _ c.in-Ok.ensures.left)))
    c.reply.ensures
