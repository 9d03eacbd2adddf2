use Rattle.std.proofs.Common.{◌≡◌, Some, List, ℕ, subst, rules}
use Rattle.key_index.specs.Slots.{bytes_of, Turns}
use Rattle.key_index.proofs.Turning.{long_turned}
use Rattle.key_index.proofs.slots.add_long.Goals as goal

pub returns-clause-ok : goal.returns-clause-ok
returns-clause-ok c =
    let same : c.in_ok-owned.owned.items ≡ c.args.key.now = search rules in
    subst (λ (key : List ℕ). Turns (bytes_of c.args.table.now.entries) (bytes_of c.insert.new.self.entries) key (Some c.args.slot)) same (long_turned c.in_ok-owned.owned.items _ _ _ c.in_ok-insert.ensures.updates.1 c.in_ok-insert.ensures.updates.3)
