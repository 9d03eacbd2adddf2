use Rattle.std.proofs.Common.{sym}
use Rattle.incarnations.proofs.Opened.{closed_absent, bare_home_row, bare_home_col, closed_sound, closed_is}
use Rattle.incarnations.proofs.opening.close.Goals as goal

pub remove_row-requires : goal.remove_row-requires
remove_row-requires c = bare_home_row c.args.stock.now c.requires.sound c.args.session c.requires.none c.in-Some.home (sym c.in-Some.ensures)

pub remove_col-requires : goal.remove_col-requires
remove_col-requires c = bare_home_col c.args.stock.now c.requires.sound c.args.session c.requires.none c.in-Some.home (sym c.in-Some.ensures) c.remove_row.new.self c.remove_row.ensures.removed

pub returns-in-Some-clause-sound : goal.returns-in-Some-clause-sound
returns-in-Some-clause-sound c = closed_sound c.args.stock.now c.requires.sound c.args.session c.requires.none c.in-Some.home (sym c.in-Some.ensures) c.remove_row.new.self c.remove_row.ensures.removed c.remove_col.new.self c.remove_col.ensures.removed c.remove_col.ensures.rings c.remove.new.self c.remove.ensures

pub returns-in-Some-clause-closed : goal.returns-in-Some-clause-closed
returns-in-Some-clause-closed c = closed_is c.args.stock.now c.requires.sound c.args.session c.requires.none c.in-Some.home (sym c.in-Some.ensures) c.remove_row.new.self c.remove_row.ensures.removed c.remove_col.new.self c.remove_col.ensures.removed c.remove_col.ensures.rings c.remove.new.self c.remove.ensures

pub returns-in-None-clause-closed : goal.returns-in-None-clause-closed
returns-in-None-clause-closed c = closed_absent c.args.stock.now c.requires.sound c.args.session c.requires.none (sym c.in-None.ensures)
