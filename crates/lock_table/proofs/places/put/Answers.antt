use Rattle.std.proofs.Common.{ap, ◌∙◌}
use Rattle.lock_table.specs.inner.Tables.{key_at}
use Rattle.lock_table.proofs.Turning.{updated, put_there}
use Rattle.lock_table.proofs.places.put.Goals as goal

pub returns-clause-turns : goal.returns-clause-turns
returns-clause-turns c = updated _ _ _ _ c.in-Ok.ensures.updates.0

pub returns-clause-at : goal.returns-clause-at
returns-clause-at c =
    ap (λ n. key_at n c.insert_full.new.self.entries) c.in-Ok.ensures.index ∙ ap (key_at _) c.in-Ok.ensures.entries ∙ put_there c.args.places.now.table.entries c.args.resource c.args.place
