use Rattle.std.proofs.Common.{◌≡◌, rules, sym, ap, ◌∙◌}
use Rattle.key_index.specs.Slots.{slot_at, long_slot, bytes_of}
use Rattle.key_index.proofs.Turning.{at_short, at_long, long_at}
use Rattle.key_index.proofs.slots.find.Goals as goal

pub returns-in-Some : goal.returns-in-Some
returns-in-Some c =
    c.find_short.ensures ∙ ap (λ key. slot_at key c.args.slots.now.short.entries) c.in-Some.ensures.bytes ∙ sym (at_short c.args.key.now c.args.slots.now.short.entries (bytes_of c.args.slots.now.long.entries) c.in-Some.ensures.some)

pub returns-in-None : goal.returns-in-None
returns-in-None c =
    let found : c.copied.result ≡ long_slot c.args.key.now c.args.slots.now.long.entries = search rules in
    found ∙ long_at c.args.key.now c.args.slots.now.long.entries ∙ sym (at_long c.args.key.now c.args.slots.now.short.entries (bytes_of c.args.slots.now.long.entries) c.in-None.ensures.none)
