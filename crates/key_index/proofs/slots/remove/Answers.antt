use Rattle.std.proofs.Common.{List, ℕ, None, IsSome, sym, subst}
use Rattle.key_index.specs.Slots.{slot_at, bytes_of, Turns}
use Rattle.key_index.proofs.Turning.{at_short, long_turned, turned_short, turned_long}
use Rattle.key_index.proofs.slots.remove.Goals as goal

pub remove_short-requires : goal.remove_short-requires
remove_short-requires c = subst (λ (key : List ℕ). IsSome (slot_at key c.args.slots.now.short.entries)) (sym c.in-Some.ensures.bytes) (subst IsSome (at_short c.args.key.now c.args.slots.now.short.entries (bytes_of c.args.slots.now.long.entries) c.in-Some.ensures.some) c.requires)

pub returns-in-Some : goal.returns-in-Some
returns-in-Some c =
    turned_short c.args.key.now c.args.slots.now.short.entries c.remove_short.new.table.entries (bytes_of c.args.slots.now.long.entries) None c.in-Some.ensures.some
    (subst (λ (key : List ℕ). Turns c.args.slots.now.short.entries c.remove_short.new.table.entries key None) c.in-Some.ensures.bytes c.remove_short.ensures)

pub returns-in-None : goal.returns-in-None
returns-in-None c =
    let u = c.swap_remove.ensures.updates in
    turned_long c.args.key.now c.args.slots.now.short.entries (bytes_of c.args.slots.now.long.entries) (bytes_of c.swap_remove.new.self.entries) None c.in-None.ensures.none (long_turned c.args.key.now c.args.slots.now.long.entries c.swap_remove.new.self.entries None u.1 u.3)
