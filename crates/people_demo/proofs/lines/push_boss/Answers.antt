use Rattle.people_demo.proofs.Added.{line_added, three_added}
use Rattle.people_demo.proofs.lines.push_boss.Goals as goal

pub returns : goal.returns
returns c = three_added _ _ _ _ _ _ _ (line_added _ _ _ _ c.in_ok-push_line.ensures c.in_ok-found.ensures) (line_added _ _ _ _ c.in_ok-push_line-2.ensures c.in_ok-bossed.ensures) (line_added _ _ _ _ c.in_ok-push_line-3.ensures c.in_ok-followed.ensures)
