use Rattle.std.proofs.Common.{◌≡◌, List, ℕ, None, sym, subst, rules}
use Rattle.schema_names.specs.Tables.{value_at, IsEntered}
use Rattle.schema_names.proofs.Entering.{entered}
use Rattle.schema_names.proofs.table.enter.Goals as goal

pub returns : goal.returns
returns g c =
    let same : c.in_ok-owned.owned.items ≡ c.args.name.now = search rules in
    let absent : value_at c.args.table.now.entries c.args.name.now ≡ None = search rules in
    subst (λ (l : List ℕ). IsEntered c.args.table.now.entries c.insert.new.self.entries l c.args.value) same
    (entered c.in_ok-owned.owned.items c.args.value _ _ (subst (λ (l : List ℕ). value_at c.args.table.now.entries l ≡ None) (sym same) absent) c.in_ok-insert.ensures.updates.1 c.in_ok-insert.ensures.updates.3)
