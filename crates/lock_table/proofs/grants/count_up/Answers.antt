use Rattle.std.proofs.Common.{Some, refl, subst, ◌+◌, ◌-◌, ◌^◌}
use Rattle.std.specs.Prelude.{min}
use Rattle.pss_machine.specs.Needs.{same_resource}
use Rattle.lock_table.specs.inner.Tables.{Turns}
use Rattle.lock_table.proofs.Turning.{recounts}
use Rattle.lock_table.proofs.grants.count_up.Goals as goal

pub returns : goal.returns
returns c resource found =
    recounts c.args.links.now _ resource (λ n. min (n + 1) (2 ^ 64 - 1)) c.args.found.place found.place
    (subst (λ n. Turns same_resource c.args.links.now.places.table.entries c.write.new.places.table.entries resource (Some (record { row = c.args.found.place.row; locks = n }))) c.saturating_add.ensures (c.write.ensures.turns resource found.at)) refl refl refl
