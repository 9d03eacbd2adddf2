use Rattle.people_demo.proofs.Added.{four_added}
use Rattle.people_demo.proofs.lines.push_commit.Goals as goal

pub returns : goal.returns
returns c = four_added _ _ _ _ _ _ _ _ _ c.in_ok-push_words.ensures c.in_ok-push_words-2.ensures c.in_ok-push_words-3.ensures c.in_ok-push_checkpoint.ensures
