use Rattle.std.proofs.Common.{sym, ap, ◌∙◌}
use Rattle.std.specs.Option.{option_map}
use Rattle.lock_table.proofs.Linking.{link_idle}
use Rattle.lock_table.proofs.grants.link.Goals as goal

pub is_held_at-requires-clause-row : goal.is_held_at-requires-clause-row
is_held_at-requires-clause-row c = c.requires.linked.rows.there c.args.lock.resource c.in-Some.found.place.row (ap (option_map (λ place. place.row)) c.in-Some.ensures.some.place)

pub insert-requires-clause-at : goal.insert-requires-clause-at
insert-requires-clause-at c = record { found = c.in-Some.ensures.some; col = c.requires.col; room = c.requires.room }

pub insert-requires-clause-new : goal.insert-requires-clause-new
insert-requires-clause-new c = sym (c.is_held_at.ensures c.args.lock.resource c.in-Some.ensures.some.place) ∙ c.if-not-is_held_at.true

pub returns-else-not-is_held_at-clause-links : goal.returns-else-not-is_held_at-clause-links
returns-else-not-is_held_at-clause-links c = link_idle c.args.links.now c.requires.linked c.args.lock (sym (c.is_held_at.ensures c.args.lock.resource c.in-Some.ensures.some.place) ∙ c.if-not-is_held_at.false)
