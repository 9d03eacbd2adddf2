use Rattle.std.proofs.Common.{◌∙◌, ap}
use Rattle.std.specs.FinMap.{remove}
use Rattle.recent_table.proofs.Maps.{remove_insert}
use Rattle.incarnations.proofs.Keys.{object_key}
use Rattle.incarnations.proofs.Named.{object}
use Rattle.incarnations.proofs.obtaining.enter_tables.Goals as goal

pub returns-in-Err-clause-objects_stay : goal.returns-in-Err-clause-objects_stay
returns-in-Err-clause-objects_stay c =
    c.remove.ensures ∙ ap (λ m. remove m (object c.args.slot.session c.args.put.entry.pid)) c.in_ok-add.ensures.ok
    ∙ remove_insert object_key c.args.objects.now (object c.args.slot.session c.args.put.entry.pid) c.args.slot.number c.requires
