use Rattle.people_demo.proofs.Added.{line_added, three_added}
use Rattle.people_demo.proofs.lines.push_making.Goals as goal

pub returns : goal.returns
returns c = three_added _ _ _ _ _ _ _ c.in_ok-push_words.ensures c.in_ok-push_words-2.ensures (line_added _ _ _ _ c.in_ok-push_line.ensures c.in_ok-made.ensures)
