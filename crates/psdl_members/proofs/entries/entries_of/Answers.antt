use Rattle.psdl_members.proofs.Entering.{entries_more}
use Rattle.psdl_members.proofs.entries.entries_of.Goals as goal

pub loop-listed-preserved : goal.loop-listed-preserved
loop-listed-preserved c =
    entries_more c.loop-listed.numbering c.entry_of.new.numbering c.loop-listed.entries.items c.push.new.self.items c.in_ok-entry.entry c.args.lists.now c.loop-listed.listed-index c.listed-item.result c.loop-listed-test.true c.listed-item.is
    c.in_ok-entry.ensures.kept c.in_ok-push.ensures.items c.loop-listed.invariant c.in_ok-entry.ensures.entry
