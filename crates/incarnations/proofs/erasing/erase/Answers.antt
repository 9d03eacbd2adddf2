use Rattle.std.proofs.Common.{refl, sym, ap, ◌∙◌, arith}
use Rattle.std.specs.Prelude.{is_some}
use Rattle.std.specs.FinMap.{get, insert}
use Rattle.recent_table.proofs.Maps.{no_value}
use Rattle.incarnations.proofs.Sets.{some, node_there, home_there}
use Rattle.incarnations.specs.Records.{without_one}
use Rattle.incarnations.proofs.Erased.{has_size, has_attached, told_loose_sound, told_loose_erased, told_attached, told_body, told_sound, told_erased, told_cols, told_parted_cols}
use Rattle.incarnations.proofs.erasing.erase.Goals as goal

pub unreachable-requires : goal.unreachable-requires
unreachable-requires c = let h = home_there c.args.stock.now c.requires.sound c.args.slot c.args.was c.requires.entry in no_value h.value (c.in_default.ensures ∙ h.is)

pub unlink_uncounted-requires : goal.unlink_uncounted-requires
unlink_uncounted-requires c = node_there c.args.stock.now c.requires.sound c.args.slot c.args.was c.requires.entry

pub set-requires : goal.set-requires
set-requires c = some (get c.args.stock.now.sessions c.args.slot.session) (sym c.in-Some.ensures)

pub less_one-requires-clause-entries : goal.less_one-requires-clause-entries
less_one-requires-clause-entries c = has_size c.args.stock.now c.requires.sound c.args.slot c.args.was c.requires.entry c.in-Some.home (sym c.in-Some.ensures) c.unlink_uncounted.new.self c.unlink_uncounted.ensures.unlinked c.unlink_uncounted.ensures.rings (insert c.args.stock.now.sessions c.args.slot.session (without_one (is_some c.args.was.entry.view) c.in-Some.home)) refl c.remove.new.self c.remove.ensures c.remove-2.new.self c.remove-2.ensures

pub less_one-requires-clause-attached : goal.less_one-requires-clause-attached
less_one-requires-clause-attached c = has_attached c.args.stock.now c.requires.sound c.args.slot c.args.was c.requires.entry c.in-Some.home (sym c.in-Some.ensures) c.unlink_uncounted.new.self c.unlink_uncounted.ensures.unlinked c.unlink_uncounted.ensures.rings (insert c.args.stock.now.sessions c.args.slot.session (without_one (is_some c.args.was.entry.view) c.in-Some.home)) refl c.remove.new.self c.remove.ensures c.remove-2.new.self c.remove-2.ensures

pub overflow_sub-stock : goal.overflow_sub-stock
overflow_sub-stock c = omega (arith, told_attached c.args.stock.now c.requires.sound c.args.slot c.args.was c.requires.entry c.in-Some.home (sym c.in-Some.ensures) c.unlink_uncounted.new.self c.unlink_uncounted.ensures.unlinked c.unlink_uncounted.ensures.rings c.set.new.self (c.set.ensures ∙ ap (insert c.args.stock.now.sessions c.args.slot.session) c.less_one.ensures) c.remove.new.self c.remove.ensures c.remove-2.new.self c.remove-2.ensures c.in-Some-view.view c.in-Some-view.is)

pub lower-requires-clause-body : goal.lower-requires-clause-body
lower-requires-clause-body c = told_body c.args.stock.now c.requires.sound c.args.slot c.args.was c.requires.entry c.in-Some.home (sym c.in-Some.ensures) c.unlink_uncounted.new.self c.unlink_uncounted.ensures.unlinked c.unlink_uncounted.ensures.rings c.set.new.self (c.set.ensures ∙ ap (insert c.args.stock.now.sessions c.args.slot.session) c.less_one.ensures) c.remove.new.self c.remove.ensures c.remove-2.new.self c.remove-2.ensures c.in-Some-view.view c.in-Some-view.is

pub returns-in-Some-view-clause-sound : goal.returns-in-Some-view-clause-sound
returns-in-Some-view-clause-sound c = told_sound c.args.stock.now c.requires.sound c.args.slot c.args.was c.requires.entry c.in-Some.home (sym c.in-Some.ensures) c.unlink_uncounted.new.self c.unlink_uncounted.ensures.unlinked c.unlink_uncounted.ensures.rings c.set.new.self (c.set.ensures ∙ ap (insert c.args.stock.now.sessions c.args.slot.session) c.less_one.ensures) c.remove.new.self c.remove.ensures c.remove-2.new.self c.remove-2.ensures c.in-Some-view.view c.in-Some-view.is c.lower.new.stock c.lower.ensures

pub returns-in-Some-view-clause-erased : goal.returns-in-Some-view-clause-erased
returns-in-Some-view-clause-erased c = told_erased c.args.stock.now c.requires.sound c.args.slot c.args.was c.requires.entry c.in-Some.home (sym c.in-Some.ensures) c.unlink_uncounted.new.self c.unlink_uncounted.ensures.unlinked c.unlink_uncounted.ensures.rings c.set.new.self (c.set.ensures ∙ ap (insert c.args.stock.now.sessions c.args.slot.session) c.less_one.ensures) c.remove.new.self c.remove.ensures c.remove-2.new.self c.remove-2.ensures c.in-Some-view.view c.in-Some-view.is c.lower.new.stock c.lower.ensures

pub returns-in-None-clause-sound : goal.returns-in-None-clause-sound
returns-in-None-clause-sound c = told_loose_sound c.args.stock.now c.requires.sound c.args.slot c.args.was c.requires.entry c.in-Some.home (sym c.in-Some.ensures) c.unlink_uncounted.new.self c.unlink_uncounted.ensures.unlinked c.unlink_uncounted.ensures.rings c.set.new.self (c.set.ensures ∙ ap (insert c.args.stock.now.sessions c.args.slot.session) c.less_one.ensures) c.remove.new.self c.remove.ensures c.remove-2.new.self c.remove-2.ensures c.in-None.is

pub returns-in-None-clause-erased : goal.returns-in-None-clause-erased
returns-in-None-clause-erased c = told_loose_erased c.args.stock.now c.requires.sound c.args.slot c.args.was c.requires.entry c.in-Some.home (sym c.in-Some.ensures) c.unlink_uncounted.new.self c.unlink_uncounted.ensures.unlinked c.unlink_uncounted.ensures.rings c.set.new.self (c.set.ensures ∙ ap (insert c.args.stock.now.sessions c.args.slot.session) c.less_one.ensures) c.remove.new.self c.remove.ensures c.remove-2.new.self c.remove-2.ensures c.in-None.is

pub returns-in-Some-view-clause-cols : goal.returns-in-Some-view-clause-cols
returns-in-Some-view-clause-cols c = told_parted_cols c.args.stock.now c.requires.sound c.args.slot c.args.was c.requires.entry c.in-Some.home (sym c.in-Some.ensures) c.unlink_uncounted.new.self c.unlink_uncounted.ensures.unlinked c.unlink_uncounted.ensures.rings c.set.new.self (c.set.ensures ∙ ap (insert c.args.stock.now.sessions c.args.slot.session) c.less_one.ensures) c.remove.new.self c.remove.ensures c.remove-2.new.self c.remove-2.ensures c.in-Some-view.view c.in-Some-view.is c.lower.new.stock c.lower.ensures

pub returns-in-None-clause-cols : goal.returns-in-None-clause-cols
returns-in-None-clause-cols c = told_cols c.args.stock.now c.requires.sound c.args.slot c.args.was c.requires.entry c.in-Some.home (sym c.in-Some.ensures) c.unlink_uncounted.new.self c.unlink_uncounted.ensures.unlinked c.unlink_uncounted.ensures.rings c.set.new.self (c.set.ensures ∙ ap (insert c.args.stock.now.sessions c.args.slot.session) c.less_one.ensures) c.remove.new.self c.remove.ensures c.remove-2.new.self c.remove-2.ensures c.args.stock.now.attached
