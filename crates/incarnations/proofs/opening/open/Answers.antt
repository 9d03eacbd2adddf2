use Rattle.std.proofs.Common.{sym, ap, ◌∙◌, subst}
use Rattle.std.specs.FinMap.{get, remove}
use Rattle.link_pool.specs.Meaning.{Meaning as Pool}
use Rattle.incarnations.specs.declared.names.Slot.{Slot}
use Rattle.incarnations.specs.Stock.{IsSound}
use Rattle.incarnations.proofs.Opened.{col_q, row_q, col_r, no_row_sound, no_table_sound, no_table_same, opened_sound, opened_is}
use Rattle.incarnations.proofs.opening.open.Goals as goal

pub remove_row-requires : goal.remove_row-requires
remove_row-requires c = row_q c.args.stock.now c.requires.sound c.args.session c.requires.free c.in_ok-col.col c.in_ok-col.ensures.new c.add_col.new.self c.in_ok-col.ensures.ok c.in-Ok.row c.in-Ok.ensures.new c.add_row.new.self c.in-Ok.ensures.ok c.add_row.ensures.rings

pub remove_col-requires : goal.remove_col-requires
remove_col-requires c = col_r c.args.stock.now c.requires.sound c.args.session c.requires.free c.in_ok-col.col c.in_ok-col.ensures.new c.add_col.new.self c.in_ok-col.ensures.ok c.in-Ok.row c.in-Ok.ensures.new c.add_row.new.self c.in-Ok.ensures.ok c.add_row.ensures.rings c.remove_row.new.self c.remove_row.ensures.removed

pub remove_col-requires-in-Err : goal.remove_col-requires-in-Err
remove_col-requires-in-Err c = ap (λ (t : Pool Slot). get t.cols c.in_ok-col.col) c.in-Err.ensures.err ∙ col_q c.args.stock.now c.requires.sound c.args.session c.requires.free c.in_ok-col.col c.in_ok-col.ensures.new c.add_col.new.self c.in_ok-col.ensures.ok

pub returns-in_err-col-clause-sound : goal.returns-in_err-col-clause-sound
returns-in_err-col-clause-sound c = subst (λ p. IsSound (record { pool = p; sessions = c.args.stock.now.sessions; entries = c.args.stock.now.entries; objects = c.args.stock.now.objects; bodies = c.args.stock.now.bodies; attached = c.args.stock.now.attached })) (sym c.in_err-col.ensures.err) c.requires.sound

pub returns-in-Ok-add-clause-sound : goal.returns-in-Ok-add-clause-sound
returns-in-Ok-add-clause-sound c = opened_sound c.args.stock.now c.requires.sound c.args.session c.requires.free c.in_ok-col.col c.in_ok-col.ensures.new c.add_col.new.self c.in_ok-col.ensures.ok c.in-Ok.row c.in-Ok.ensures.new c.add_row.new.self c.in-Ok.ensures.ok c.add_row.ensures.rings c.add.new.self c.in-Ok-add.ensures.ok

pub returns-in-Ok-add-clause-ok : goal.returns-in-Ok-add-clause-ok
returns-in-Ok-add-clause-ok c = opened_is c.args.stock.now c.requires.sound c.args.session c.requires.free c.in_ok-col.col c.in_ok-col.ensures.new c.add_col.new.self c.in_ok-col.ensures.ok c.in-Ok.row c.in-Ok.ensures.new c.add_row.new.self c.in-Ok.ensures.ok c.add_row.ensures.rings c.add.new.self c.in-Ok-add.ensures.ok

pub returns-in-Err-add-clause-sound : goal.returns-in-Err-add-clause-sound
returns-in-Err-add-clause-sound c = no_table_sound c.args.stock.now c.requires.sound c.args.session c.requires.free c.in_ok-col.col c.in_ok-col.ensures.new c.add_col.new.self c.in_ok-col.ensures.ok c.in-Ok.row c.in-Ok.ensures.new c.add_row.new.self c.in-Ok.ensures.ok c.add_row.ensures.rings c.remove_row.new.self c.remove_row.ensures.removed c.remove_col.new.self c.remove_col.ensures.removed c.remove_col.ensures.rings c.add.new.self c.in-Err-add.ensures.err

pub returns-in-Err-add-clause-err : goal.returns-in-Err-add-clause-err
returns-in-Err-add-clause-err c = no_table_same c.args.stock.now c.requires.sound c.args.session c.requires.free c.in_ok-col.col c.in_ok-col.ensures.new c.add_col.new.self c.in_ok-col.ensures.ok c.in-Ok.row c.in-Ok.ensures.new c.add_row.new.self c.in-Ok.ensures.ok c.add_row.ensures.rings c.remove_row.new.self c.remove_row.ensures.removed c.remove_col.new.self c.remove_col.ensures.removed c.remove_col.ensures.rings c.add.new.self c.in-Err-add.ensures.err

pub returns-in-Err-clause-sound : goal.returns-in-Err-clause-sound
returns-in-Err-clause-sound c = no_row_sound c.args.stock.now c.requires.sound c.args.session c.requires.free c.in_ok-col.col c.in_ok-col.ensures.new c.add_col.new.self c.in_ok-col.ensures.ok c.remove_col-in-Err.new.self (c.remove_col-in-Err.ensures.removed ∙ ap (λ (t : Pool Slot). record t { cols = remove t.cols c.in_ok-col.col }) c.in-Err.ensures.err) c.remove_col-in-Err.ensures.rings
