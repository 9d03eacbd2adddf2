use Rattle.std.proofs.Common.{refl}
use Rattle.lock_table.proofs.Emptied.{column_removed, column_removed_cols}
use Rattle.lock_table.proofs.rings.remove_column.Goals as goal

pub returns-clause-linked : goal.returns-clause-linked
returns-clause-linked c = column_removed c.args.links.now (record c.args.links.now { pool = c.remove_col.new.self; columns = c.remove.new.table }) c.requires.linked c.args.owner c.args.col c.requires.col c.requires.empty c.remove.ensures c.remove_col.ensures.removed refl refl c.remove_col.ensures.rings

pub returns-clause-cols : goal.returns-clause-cols
returns-clause-cols c = column_removed_cols c.args.links.now (record c.args.links.now { pool = c.remove_col.new.self; columns = c.remove.new.table }) c.requires.linked c.args.owner c.args.col c.requires.col c.requires.empty c.remove.ensures c.remove_col.ensures.removed refl refl c.remove_col.ensures.rings
