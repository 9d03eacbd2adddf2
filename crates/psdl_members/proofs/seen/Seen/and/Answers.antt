use Rattle.psdl_members.proofs.Sights.{seen_both}
use Rattle.psdl_members.proofs.seen.Seen.and.Goals as goal

pub returns : goal.returns
returns c es here there v w = seen_both c.args.self c.args.also es here there v w
