use Rattle.std.proofs.Common.{sym, subst}
use Rattle.link_pool.specs.Cells.{LeadsToCells}
use Rattle.link_pool.specs.declared.cells.Side.TheVariants.{Rows, Cols}
use Rattle.link_pool.proofs.Sound.{end_leads}
use Rattle.link_pool.proofs.cells.add_last.Goals as goal

pub add_between-requires-clause-row : goal.add_between-requires-clause-row
add_between-requires-clause-row g c = subst (LeadsToCells c.args.cells.now) (sym c.end_of-row.ensures) (end_leads Rows c.args.cells.now c.requires.sound.rows c.args.seat.row.number c.requires.row)

pub add_between-requires-clause-col : goal.add_between-requires-clause-col
add_between-requires-clause-col g c = subst (LeadsToCells c.args.cells.now) (sym c.end_of-col.ensures) (end_leads Cols c.args.cells.now c.requires.sound.cols c.args.seat.col.number c.requires.col)
