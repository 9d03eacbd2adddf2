use Rattle.people_demo.proofs.Added.{three_added}
use Rattle.people_demo.proofs.tally.append_replies.Goals as goal

pub returns : goal.returns
returns c = three_added _ _ _ _ _ _ _ c.in_ok-append_numbered.ensures c.in_ok-append_numbered-2.ensures c.in_ok-append_numbered-3.ensures
