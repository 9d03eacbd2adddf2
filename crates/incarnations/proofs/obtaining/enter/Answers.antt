use Rattle.std.proofs.Common.{sym, ap, subst}
use Rattle.std.specs.FinMap.{get}
use Rattle.link_pool.specs.Meaning.{Meaning as Pool}
use Rattle.incarnations.specs.declared.names.Slot.{Slot}
use Rattle.incarnations.specs.Stock.{IsSound}
use Rattle.incarnations.proofs.Sets.{some}
use Rattle.incarnations.proofs.Entered.{home_row, home_col, node_at, entered_sound, entered_new, undone_sound, undone_is}
use Rattle.incarnations.proofs.obtaining.enter.Goals as goal

pub insert_reserved-node-requires-clause-row : goal.insert_reserved-node-requires-clause-row
insert_reserved-node-requires-clause-row c = home_row c.args.stock.now c.requires.sound c.args.session c.args.home c.requires.home c.args.pid c.requires.free c.reserve.new.self (ap (λ (t : Pool Slot). t.nodes) c.in_ok-reserve.ensures.ok) (ap (λ (t : Pool Slot). t.rows) c.in_ok-reserve.ensures.ok) (ap (λ (t : Pool Slot). t.cols) c.in_ok-reserve.ensures.ok) c.reserve.ensures.rings

pub insert_reserved-node-requires-clause-col : goal.insert_reserved-node-requires-clause-col
insert_reserved-node-requires-clause-col c = home_col c.args.stock.now c.requires.sound c.args.session c.args.home c.requires.home c.args.pid c.requires.free c.reserve.new.self (ap (λ (t : Pool Slot). t.nodes) c.in_ok-reserve.ensures.ok) (ap (λ (t : Pool Slot). t.rows) c.in_ok-reserve.ensures.ok) (ap (λ (t : Pool Slot). t.cols) c.in_ok-reserve.ensures.ok) c.reserve.ensures.rings

pub unlink_uncounted-requires : goal.unlink_uncounted-requires
unlink_uncounted-requires c = some (get c.insert_reserved-node.new.self.nodes c.insert_reserved-node.result) (node_at c.args.stock.now c.requires.sound c.args.session c.args.home c.requires.home c.args.pid c.requires.free c.reserve.new.self (ap (λ (t : Pool Slot). t.nodes) c.in_ok-reserve.ensures.ok) (ap (λ (t : Pool Slot). t.rows) c.in_ok-reserve.ensures.ok) (ap (λ (t : Pool Slot). t.cols) c.in_ok-reserve.ensures.ok) c.reserve.ensures.rings c.insert_reserved-node.result c.insert_reserved-node.ensures.new c.insert_reserved-node.new.self c.insert_reserved-node.ensures.inserted c.insert_reserved-node.ensures.rings)

pub returns-in_err-reserve-clause-sound : goal.returns-in_err-reserve-clause-sound
returns-in_err-reserve-clause-sound c =
    subst (λ p. IsSound (record { pool = p; sessions = c.args.stock.now.sessions; entries = c.args.stock.now.entries; objects = c.args.stock.now.objects; bodies = c.args.stock.now.bodies; attached = c.args.stock.now.attached })) (sym c.in_err-reserve.ensures.err) c.requires.sound

pub returns-in-Ok-clause-sound : goal.returns-in-Ok-clause-sound
returns-in-Ok-clause-sound c = entered_sound c.args.stock.now c.requires.sound c.args.session c.args.home c.requires.home c.args.pid c.requires.free c.reserve.new.self (ap (λ (t : Pool Slot). t.nodes) c.in_ok-reserve.ensures.ok) (ap (λ (t : Pool Slot). t.rows) c.in_ok-reserve.ensures.ok) (ap (λ (t : Pool Slot). t.cols) c.in_ok-reserve.ensures.ok) c.reserve.ensures.rings c.insert_reserved-node.result c.insert_reserved-node.ensures.new c.insert_reserved-node.new.self c.insert_reserved-node.ensures.inserted c.insert_reserved-node.ensures.rings c.enter_tables.new.entries c.in-Ok.ensures.entries c.enter_tables.new.objects c.in-Ok.ensures.objects c.set.new.self c.set.ensures

pub returns-in-Ok-clause-ok : goal.returns-in-Ok-clause-ok
returns-in-Ok-clause-ok c = entered_new c.args.stock.now c.requires.sound c.args.session c.args.home c.requires.home c.args.pid c.requires.free c.reserve.new.self (ap (λ (t : Pool Slot). t.nodes) c.in_ok-reserve.ensures.ok) (ap (λ (t : Pool Slot). t.rows) c.in_ok-reserve.ensures.ok) (ap (λ (t : Pool Slot). t.cols) c.in_ok-reserve.ensures.ok) c.reserve.ensures.rings c.insert_reserved-node.result c.insert_reserved-node.ensures.new c.insert_reserved-node.new.self c.insert_reserved-node.ensures.inserted c.insert_reserved-node.ensures.rings c.enter_tables.new.entries c.in-Ok.ensures.entries c.enter_tables.new.objects c.in-Ok.ensures.objects c.set.new.self c.set.ensures

pub returns-in-Err-clause-sound : goal.returns-in-Err-clause-sound
returns-in-Err-clause-sound c = undone_sound c.args.stock.now c.requires.sound c.args.session c.args.home c.requires.home c.args.pid c.requires.free c.reserve.new.self (ap (λ (t : Pool Slot). t.nodes) c.in_ok-reserve.ensures.ok) (ap (λ (t : Pool Slot). t.rows) c.in_ok-reserve.ensures.ok) (ap (λ (t : Pool Slot). t.cols) c.in_ok-reserve.ensures.ok) c.reserve.ensures.rings c.insert_reserved-node.result c.insert_reserved-node.ensures.new c.insert_reserved-node.new.self c.insert_reserved-node.ensures.inserted c.insert_reserved-node.ensures.rings c.unlink_uncounted.new.self c.unlink_uncounted.ensures.unlinked c.unlink_uncounted.ensures.rings c.enter_tables.new.entries c.in-Err.ensures.entries_stay c.enter_tables.new.objects c.in-Err.ensures.objects_stay

pub returns-in-Err-clause-err : goal.returns-in-Err-clause-err
returns-in-Err-clause-err c = undone_is c.args.stock.now c.requires.sound c.args.session c.args.home c.requires.home c.args.pid c.requires.free c.reserve.new.self (ap (λ (t : Pool Slot). t.nodes) c.in_ok-reserve.ensures.ok) (ap (λ (t : Pool Slot). t.rows) c.in_ok-reserve.ensures.ok) (ap (λ (t : Pool Slot). t.cols) c.in_ok-reserve.ensures.ok) c.reserve.ensures.rings c.insert_reserved-node.result c.insert_reserved-node.ensures.new c.insert_reserved-node.new.self c.insert_reserved-node.ensures.inserted c.insert_reserved-node.ensures.rings c.unlink_uncounted.new.self c.unlink_uncounted.ensures.unlinked c.unlink_uncounted.ensures.rings c.enter_tables.new.entries c.in-Err.ensures.entries_stay c.enter_tables.new.objects c.in-Err.ensures.objects_stay
