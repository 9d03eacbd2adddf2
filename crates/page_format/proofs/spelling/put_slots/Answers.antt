use Rattle.std.proofs.Common.{ap, arith, length, length-append, take}
use Rattle.std.proofs.lemmas.List.{length-take-le}
use Rattle.page_format.specs.Written.{list_octets}
use Rattle.page_format.proofs.Spelled.{length_list}
use Rattle.page_format.proofs.spelling.put_slots.Goals as goal

pub put-requires : goal.put-requires
put-requires c =
    let so_far = take c.loop-slot.slot-index c.args.slots.now in
    omega (
      arith,
      ap (λ b. b.size) c.loop-slot.invariant,
      ap (λ b. length b.octets) c.loop-slot.invariant,
      c.requires,
      c.loop-slot-test.true,
      length_list so_far,
      ap length c.to_be_bytes.ensures,
      length-take-le c.loop-slot.slot-index c.args.slots.now (omega (arith, c.loop-slot-test.true)),
      length-append c.args.buffer.now.octets (list_octets so_far),
    )
