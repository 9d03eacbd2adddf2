use Rattle.std.proofs.Common.{subst}
use Rattle.storage_home.proofs.Holding.{if_ok}
use Rattle.pss_recovery.specs.Bodies.{Spells}
use Rattle.pss_recovery.specs.Replaying.{IsChanged}
use Rattle.pss_recovery.specs.declared.body.Body.{Body}
use Rattle.pss_recovery.proofs.BodyParts.{one_body}
use Rattle.pss_recovery.proofs.replaying.replay_body.Goals as goal

pub returns-in-Ok-Some-clause-none : goal.returns-in-Ok-Some-clause-none
returns-in-Ok-Some-clause-none c =
    let spells : Spells c.args.octets.now c.in-Ok-Some.body = rw c.in-Ok-Some.field-0-is at c.in-Ok-Some.ensures.found in
    if_ok c.make_body.result
    (λ made none is M N last kept right. none is M N kept (subst (λ (b : Body). IsChanged c.args.schema.now M c.args.next b N) (one_body c.args.octets.now right.body c.in-Ok-Some.body right.spells spells) right.changed))
    c.make_body.ensures.none
