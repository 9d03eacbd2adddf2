use Rattle.std.proofs.Common.{Option, Some, None, ◌==◌, ap, ◌∙◌}
use Rattle.type_layout.specs.Schemas.{given}
use Rattle.owner_view.specs.declared.states.Slot.{Slot}
use Rattle.owner_view.specs.States.{slot_at, slot_state}
use Rattle.owner_view.proofs.Lengths.{sized_turned}
use Rattle.owner_view.proofs.Stating.{cond-state}
use Rattle.owner_view.proofs.states.put.Goals as goal

pub returns-clause-turned : goal.returns-clause-turned
returns-clause-turned c q =
    ap (λ (o : Option Slot). given o None slot_state) (c.get_mut.follows.holds c.args.slot c.requires q) ∙ cond-state (c.args.serial == q) (Some c.args.slot) (slot_at q c.args.states.now)

pub returns-clause-sized : goal.returns-clause-sized
returns-clause-sized c S all here = sized_turned S c.args.states.now _ c.args.serial c.args.slot (c.get_mut.follows.holds c.args.slot c.requires) all here
