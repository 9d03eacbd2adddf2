use Rattle.redo_journal.proofs.Exact.{damaged_once, holds_one_list, never_both}
use Rattle.redo_journal.proofs.Found.{either}
use Rattle.redo_journal.proofs.laws.a_journal_is_one_thing.Goals as goal

pub returns : goal.returns
returns c = record { either = either; bodies = holds_one_list; damaged = damaged_once; never_both = never_both }
