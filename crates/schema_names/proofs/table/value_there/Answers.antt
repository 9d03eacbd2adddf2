use Rattle.std.proofs.Common.{rules}
use Rattle.std.specs.Str.{bytes_eq}
use Rattle.schema_names.proofs.Firsts.{other_next, none_next}
use Rattle.schema_names.proofs.table.value_there.Goals as goal
use Rattle.schema_names.proofs.table.value_there.Goals.{in_default-via-in-Some+else-eq, in_default-via-in_default}

pub returns-in_default : goal.returns-in_default
returns-in_default g c =
    elim c.in_default.branch [
      | in_default-via-in-Some+else-eq w ↦ other_next (λ k. bytes_eq c.args.name.now k.items) c.args.table.now.entries c.args.place (w.in-Some.there.now, w.in-Some.value.now) (search rules) (search rules)
      | in_default-via-in_default w ↦ none_next (λ k. bytes_eq c.args.name.now k.items) c.args.table.now.entries c.args.place (search rules)
    ]
