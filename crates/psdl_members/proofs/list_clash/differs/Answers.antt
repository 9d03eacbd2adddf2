use Rattle.std.proofs.Common.{◌∙◌, sym, true, length-set}
use Rattle.psdl_members.proofs.FirstLists.{came_already, new_first}
use Rattle.psdl_members.proofs.list_clash.differs.Goals as goal

pub returns-then-has-clause-firsts : goal.returns-then-has-clause-firsts
returns-then-has-clause-firsts c xs w = came_already c.args.firsts.now.marks c.args.firsts.now.lists.items xs c.args.entry c.index.result.now w (sym c.has.ensures ∙ c.if-has.true) c.requires.lists c.index.ensures

pub returns-clause-firsts : goal.returns-clause-firsts
returns-clause-firsts c xs w =
    rw c.mark.ensures (new_first c.args.firsts.now.marks c.args.firsts.now.lists.items xs c.args.entry w c.requires.marks c.requires.lists (sym c.has.ensures ∙ c.if-has.false))

pub returns-clause-room : goal.returns-clause-room
returns-clause-room c =
    record {
      marks = rw c.mark.ensures (length-set c.args.firsts.now.marks c.args.entry.name true);
      lists = length-set c.args.firsts.now.lists.items c.args.entry.name c.args.entry.list;
    }
