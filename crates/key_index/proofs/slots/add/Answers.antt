use Rattle.std.proofs.Common.{List, ℕ, Some, subst, sym, ap, ◌∙◌}
use Rattle.key_index.specs.Slots.{slot_at, bytes_of, Turns}
use Rattle.key_index.proofs.Turning.{on_ok, given_ok, at_short, at_long, long_at, turned_short, turned_long}
use Rattle.key_index.proofs.slots.add.Goals as goal

pub returns-in-Some-clause-ok : goal.returns-in-Some-clause-ok
returns-in-Some-clause-ok c =
    on_ok c.add_short.result
    (λ turns. turned_short c.args.key.now c.args.slots.now.short.entries c.add_short.new.table.entries (bytes_of c.args.slots.now.long.entries) (Some c.args.slot) c.in-Some.ensures.some
    (subst (λ (key : List ℕ). Turns c.args.slots.now.short.entries c.add_short.new.table.entries key (Some c.args.slot)) c.in-Some.ensures.bytes turns))
    c.add_short.ensures.ok

pub returns-in-None-clause-ok : goal.returns-in-None-clause-ok
returns-in-None-clause-ok c = on_ok c.add_long.result (λ turns. turned_long c.args.key.now c.args.slots.now.short.entries (bytes_of c.args.slots.now.long.entries) (bytes_of c.add_long.new.table.entries) (Some c.args.slot) c.in-None.ensures.none turns) c.add_long.ensures.ok

pub returns-in-Some-clause-had : goal.returns-in-Some-clause-had
returns-in-Some-clause-had c =
    given_ok c.add_short.result
    (λ had is. is ∙ ap (λ key. slot_at key c.args.slots.now.short.entries) c.in-Some.ensures.bytes ∙ sym (at_short c.args.key.now c.args.slots.now.short.entries (bytes_of c.args.slots.now.long.entries) c.in-Some.ensures.some)) c.add_short.ensures.had

pub returns-in-None-clause-had : goal.returns-in-None-clause-had
returns-in-None-clause-had c =
    given_ok c.add_long.result
    (λ had is. is ∙ long_at c.args.key.now c.args.slots.now.long.entries ∙ sym (at_long c.args.key.now c.args.slots.now.short.entries (bytes_of c.args.slots.now.long.entries) c.in-None.ensures.none)) c.add_long.ensures.had
