use Rattle.std.proofs.lemmas.Result.{IfOk-weaker}
use Rattle.page_format.proofs.Buffers.{some_weaker}
use Rattle.page_format.proofs.SlotLists.{slots_read}
use Rattle.page_format.proofs.slot_list.read_slots.Goals as goal

pub returns-in-Ok-clause-slots : goal.returns-in-Ok-clause-slots
returns-in-Ok-clause-slots g c =
    IfOk-weaker c.slots_of.result _ _
    (λ slots is. some_weaker (g.W.Station.content c.args.w.now) _ _ (λ image copy. slots_read c.args.area c.args.count c.deref.result.now c.in-Ok.octets.items image slots c.deref.ensures.value is copy) c.in-Ok.ensures.copied)
    c.slots_of.ensures.slots
