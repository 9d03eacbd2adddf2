use Rattle.std.proofs.Common.{ap, ◌∙◌}
use Rattle.std.specs.FinMap as map
use Rattle.std.specs.FinSet as set
use Rattle.pss_recovery.proofs.Tables.{put_is, reserved_now}
use Rattle.pss_recovery.proofs.claims.put_tagged.Goals as goal

pub put_reserved-requires-clause-reserved : goal.put_reserved-requires-clause-reserved
put_reserved-requires-clause-reserved c = ap (λ s. set.contains s c.args.octets.now) c.in_ok-reserve-in-None.ensures.ok ∙ reserved_now c.args.table.now.reserved c.args.octets.now

pub returns-in_ok-reserve-in-None : goal.returns-in_ok-reserve-in-None
returns-in_ok-reserve-in-None c = put_is c.args.table.now c.put_reserved.new.self c.args.octets.now 0 (c.put_reserved.ensures.held ∙ ap (λ m. map.insert m c.args.octets.now 0) c.reserve.ensures.held)
