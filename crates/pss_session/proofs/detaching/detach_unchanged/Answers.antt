use Rattle.pss_session.proofs.Leaving.{unchanged_left}
use Rattle.pss_session.proofs.detaching.detach_unchanged.Goals as goal

pub returns-clause-left : goal.returns-clause-left
returns-clause-left g c = unchanged_left (record { 0 = c.args.number }) c.args.pid c.args.copies.now c.detach_entry.new.self c.detach_entry-2.new.self c.detach_entry.ensures.left c.detach_entry-2.ensures.left
