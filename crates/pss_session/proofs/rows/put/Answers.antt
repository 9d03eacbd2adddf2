use Rattle.std.proofs.Common.{◌∙◌}
use Rattle.pss_session.proofs.Orders.{put_last}
use Rattle.pss_session.proofs.rows.put.Goals as goal

pub returns : goal.returns
returns c = c.in-Ok.ensures.entries ∙ put_last c.args.rows.now.entries c.args.number c.args.session c.requires.free
