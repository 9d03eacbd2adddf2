use Rattle.std.proofs.Common.{◌≡◌, Err, ap, arith, length}
use Rattle.page_store.specs.declared.stop.PlanStop.TheVariants.{Lost as AreLost}
use Rattle.page_store.proofs.Anew.{may_be_written, repacked_left}
use Rattle.page_store.proofs.Following.{planned_left}
use Rattle.page_store.proofs.SomePages.{few_slots, packed_left}
use Rattle.page_store.proofs.pages.Pages.plan.Goals as goal

pub lay_out-requires-clause-written : goal.lay_out-requires-clause-written
lay_out-requires-clause-written c = may_be_written c.args.puts.now c.in-Ok.packed.items c.requires.storable c.in-Ok.ensures.packed c.in-Ok.ensures.large

pub returns-in-Ok-lay_out-clause-planned : goal.returns-in-Ok-lay_out-clause-planned
returns-in-Ok-lay_out-clause-planned c old kept content are may =
    planned_left old kept c.args.self.now c.lay_out.new.self c.args.stay c.args.puts.now c.args.next content are may c.in-Ok.packed.items
    (repacked_left kept c.args.puts.now content c.in-Ok.packed.items are.left c.requires.storable c.in-Ok.ensures.packed c.in-Ok.ensures.large c.in-Ok.ensures.few) c.in-Ok-lay_out.plan c.in-Ok-lay_out.ensures.plan c.lay_out.ensures.pages c.in-Ok-lay_out.ensures.places

pub returns-in-Ok-lay_out-clause-packed : goal.returns-in-Ok-lay_out-clause-packed
returns-in-Ok-lay_out-clause-packed c kept content are =
    packed_left kept c.args.self.now c.args.stay c.args.puts.now content are c.in-Ok.packed.items c.args.next c.in-Ok-lay_out.plan c.in-Ok-lay_out.ensures.plan
    (repacked_left kept c.args.puts.now content c.in-Ok.packed.items are.left c.requires.storable c.in-Ok.ensures.packed c.in-Ok.ensures.large c.in-Ok.ensures.few)

pub returns-in-Err-lay_out-clause-lost : goal.returns-in-Err-lay_out-clause-lost
returns-in-Err-lay_out-clause-lost c = λ same old kept content are may small.
    let is : c.in-Err-lay_out.stop ≡ AreLost = cc in
    let many = c.in-Err-lay_out.ensures.lost (ap Err is) in
    let few = few_slots old kept c.args.next content may c.in-Ok.packed.items (repacked_left kept c.args.puts.now content c.in-Ok.packed.items are.left c.requires.storable c.in-Ok.ensures.packed c.in-Ok.ensures.large c.in-Ok.ensures.few) in
    omega (arith, many, few, ap length are.stay_)
