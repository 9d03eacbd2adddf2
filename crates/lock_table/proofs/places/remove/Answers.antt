use Rattle.lock_table.proofs.Turning.{removed_there}
use Rattle.lock_table.proofs.places.remove.Goals as goal

pub returns : goal.returns
returns c resource is = removed_there c.args.places.now.table.entries c.swap_remove_index.new.self.entries c.args.at resource c.swap_remove_index.result _ (λ p u. u.0) is c.swap_remove_index.ensures.entry c.swap_remove_index.ensures.updates
