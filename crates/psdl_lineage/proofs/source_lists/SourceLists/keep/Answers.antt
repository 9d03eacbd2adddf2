use Rattle.psdl_lineage.proofs.Kept.{lists_set}
use Rattle.psdl_lineage.proofs.source_lists.SourceLists.keep.Goals as goal

pub returns : goal.returns
returns c = lists_set c.args.self.now.kept.items c.args.number c.args.list
