use Rattle.std.proofs.Common.{List, ℕ, Some, IsSome, sym, subst, ◌∙◌}
use Rattle.key_index.specs.Slots.{slot_at, bytes_of, Turns}
use Rattle.key_index.proofs.Turning.{at_short, at_long, long_at, turned_short, turned_long}
use Rattle.key_index.proofs.slots.write.Goals as goal

pub write_short-requires : goal.write_short-requires
write_short-requires c = subst (λ (key : List ℕ). IsSome (slot_at key c.args.slots.now.short.entries)) (sym c.in-Some.ensures.bytes) (subst IsSome (at_short c.args.key.now c.args.slots.now.short.entries (bytes_of c.args.slots.now.long.entries) c.in-Some.ensures.some) c.requires)

pub write_long-requires : goal.write_long-requires
write_long-requires c = subst IsSome (at_long c.args.key.now c.args.slots.now.short.entries (bytes_of c.args.slots.now.long.entries) c.in-None.ensures.none ∙ sym (long_at c.args.key.now c.args.slots.now.long.entries)) c.requires

pub returns-in-Some : goal.returns-in-Some
returns-in-Some c =
    turned_short c.args.key.now c.args.slots.now.short.entries c.write_short.new.table.entries (bytes_of c.args.slots.now.long.entries) (Some c.args.slot) c.in-Some.ensures.some
    (subst (λ (key : List ℕ). Turns c.args.slots.now.short.entries c.write_short.new.table.entries key (Some c.args.slot)) c.in-Some.ensures.bytes c.write_short.ensures)

pub returns-in-None : goal.returns-in-None
returns-in-None c = turned_long c.args.key.now c.args.slots.now.short.entries (bytes_of c.args.slots.now.long.entries) (bytes_of c.write_long.new.table.entries) (Some c.args.slot) c.in-None.ensures.none c.write_long.ensures
